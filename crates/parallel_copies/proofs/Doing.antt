-- The steps, as the code makes them.
use Rattle.std.proofs.Common.{◌≡◌, ℕ, zero, suc, ◌+◌, ◌≤◌, Bool, true, false, List, [], ◌∷◌, ◌++◌, Option, Some, None}
use Rattle.std.proofs.Common.{length, length-append, take, drop, map, cond, refl, sym, ap, subst, ◌∙◌, arith}
use Rattle.std.specs.Prelude.{slice_get, slice_index_or, slice_set, remove, position, filter, ◌<◌}
use Rattle.std.specs.List.{refill}
use Rattle.std.proofs.lemmas.List.{append-nil, drop_all, take_all, length-map, take-append-drop, get_or_default}
use Rattle.std.proofs.lemmas.List.Edits.{map_over_more}
use Rattle.std.proofs.lemmas.List.Elements.{filter-append}
use Rattle.std.proofs.lemmas.List.Filters.{length-filter_more}
use Rattle.pcc_base.specs.declared.run.Width.TheVariants.{Two}
use Rattle.ia32_insn.specs.declared.insn.Insn.{Insn}
use Rattle.ia32_emit.specs.declared.locations.Location.{Location}
use Rattle.ia32_emit.specs.Locations.{place_of}
use Rattle.parallel_copies.specs.declared.moves.Move.{Move}
use Rattle.parallel_copies.specs.Overlap.{is_same}
use Rattle.parallel_copies.specs.Copies.{source, target}
use Rattle.parallel_copies.specs.Steps.{Advances, AreTaken, AreWaiting, IsScratch, copy_insn, is_exchangeable, is_free}
use Rattle.parallel_copies.specs.Steps.{is_busy, is_savable, is_taken, redirected, swap_insn}
use Rattle.parallel_copies.proofs.Lists.{found-at, none-found}
use Rattle.parallel_copies.proofs.Advancing.{copy-advances, idle-advances, save-advances, swap-advances}
use Rattle.parallel_copies.proofs.Stuck.{no-scratch-free, no-word-waits}

-- ---- elements

at-index : {X : Type 0} (xs : List X) (i : ℕ) (x d : X) → slice_get xs i ≡ Some x → slice_index_or xs i d ≡ x
at-index [] i x d e = cc
at-index (y ∷ ys) zero x d e = let same : y ≡ x = cc in same
at-index (y ∷ ys) (suc i) x d e = at-index ys i x d e

-- a list written over with as many elements is those
refill-whole : {X : Type 0} (xs ys : List X) → length ys ≡ length xs → refill (length xs) xs ys ≡ ys
refill-whole xs ys e =
    let none : drop (length ys) xs ≡ [] = drop_all (length ys) xs (omega (arith, e)) in
    ap (λ l. take (length xs) (ys ++ l)) none ∙ ap (take (length xs)) (append-nil ys)
    ∙ take_all (length xs) ys (omega (arith, e))

pub refill-mapped : (f : Move → Move) (xs ys : List Move) → ys ≡ map f xs → refill (length xs) xs ys ≡ map f xs
refill-mapped f xs ys e =
    let long : length ys ≡ length xs = ap (λ (l : List Move). length l) e ∙ length-map xs f in
    refill-whole xs ys long ∙ e

-- one element more comes from elsewhere
pub redirected-more : (f : Move → Move) (xs ys : List Move) (i : ℕ) (d r : Move) → i < length xs
    → length ys ≡ length xs → ys ≡ map f (take i xs) ++ drop i xs → r ≡ f (slice_index_or ys i d)
    → slice_set ys i r ≡ map f (take (i + 1) xs) ++ drop (i + 1) xs
redirected-more f xs ys i d r inside long so_far is =
    let x : Move = slice_index_or ys i d in
    let within : i < length ys = omega (arith, long) in
    ap (slice_set ys i) is ∙ map_over_more f xs ys i x inside so_far (get_or_default ys i d x within)

-- ---- the moves that change something

kept-prefix : (n : ℕ) (xs : List Move) → length (filter is_busy (take n xs)) ≤ length (filter is_busy xs)
kept-prefix n xs =
    let parts = filter-append is_busy (take n xs) (drop n xs) in
    let whole : filter is_busy (take n xs ++ drop n xs) ≡ filter is_busy xs =
    ap (λ (l : List Move). filter is_busy l) (take-append-drop n xs) in
    let sum = length-append (filter is_busy (take n xs)) (filter is_busy (drop n xs)) in
    let long : length (filter is_busy xs) ≡ length (filter is_busy (take n xs) ++ filter is_busy (drop n xs)) =
    ap (λ (l : List Move). length l) (sym whole ∙ parts) in
    omega (arith, sum, long)

pub busy-room : (moves waiting : List Move) (i : ℕ) (d : Move) → waiting ≡ filter is_busy (take i moves)
    → i < length moves → is_busy (slice_index_or moves i d) ≡ true → length (filter is_busy moves) ≤ 16
    → length waiting < 16
busy-room moves waiting i d so_far inside busy few =
    let more = length-filter_more is_busy moves i d inside in
    let count : Bool → ℕ = λ b. cond b 1 0 in
    let one = ap count busy in
    let most = kept-prefix (i + 1) moves in
    let now : length waiting ≡ length (filter is_busy (take i moves)) = ap (λ (l : List Move). length l) so_far in
    omega (arith, more, one, most, now)

-- ---- steps

-- the same step, of equal lists
same-step : (word : ℕ) (old new other : List Move) (before after last : List Insn) → Advances word old new before after
    → other ≡ new → last ≡ after → Advances word old other before last
same-step word old new other before after last h e f =
    subst (λ (l : List Insn). Advances word old other before l) (sym f)
    (subst (λ (l : List Move). Advances word old l before after) (sym e) h)

with-last : (before last : List Insn) (i j : Insn) → last ≡ before ++ i ∷ [] → i ≡ j → last ≡ before ++ j ∷ []
with-last before last i j e f = cc

pub copy-done : (word : ℕ) (old new : List Move) (i : ℕ) (m : Move) (before after : List Insn) (insn : Insn)
    → AreWaiting word old → ((n : Move) × (slice_get old i ≡ Some n) × (is_free n old ≡ true))
    → m ≡ slice_index_or old i m → new ≡ remove old i → is_same (source m) (target m) ≡ false
    → insn ≡ copy_insn (source m) (target m) → after ≡ before ++ insn ∷ [] → Advances word old new before after
copy-done word old new i m before after insn waits (n, there, free) is e other made f =
    let same : n ≡ m = sym (is ∙ at-index old i n m there) in
    let there_m = subst (λ (x : Move). slice_get old i ≡ Some x) same there in
    let free_m = subst (λ (x : Move). is_free x old ≡ true) same free in
    same-step word old (remove old i) new before (before ++ copy_insn (source m) (target m) ∷ []) after
    (copy-advances word old i m before waits there_m free_m other) e
    (with-last before after insn (copy_insn (source m) (target m)) f made)

pub idle-done : (word : ℕ) (old new : List Move) (i : ℕ) (m : Move) (before : List Insn) → AreWaiting word old
    → ((n : Move) × (slice_get old i ≡ Some n) × (is_free n old ≡ true)) → m ≡ slice_index_or old i m
    → new ≡ remove old i → is_same (source m) (target m) ≡ true → Advances word old new before before
idle-done word old new i m before waits (n, there, free) is e one =
    let same : n ≡ m = sym (is ∙ at-index old i n m there) in
    same-step word old (remove old i) new before before before
    (idle-advances word old i m before waits (subst (λ (x : Move). slice_get old i ≡ Some x) same there) one) e refl

pub swap-done : (word : ℕ) (old rest new : List Move) (i : ℕ) (m : Move) (before after : List Insn) (insn : Insn)
    → AreWaiting word old → ((n : Move) × (slice_get old i ≡ Some n) × (is_exchangeable n old ≡ true))
    → m ≡ slice_index_or old i m → rest ≡ remove old i → new ≡ map (redirected m.to m.from) rest
    → insn ≡ swap_insn (source m) (target m) → after ≡ before ++ insn ∷ []
    → Advances word old (refill (length rest) rest new) before after
swap-done word old rest new i m before after insn waits (n, there, test) is e g made f =
    let same : n ≡ m = sym (is ∙ at-index old i n m there) in
    same-step word old (map (redirected m.to m.from) (remove old i)) (refill (length rest) rest new) before
    (before ++ swap_insn (source m) (target m) ∷ []) after
    (swap-advances word old i m before waits (subst (λ (x : Move). slice_get old i ≡ Some x) same there)
    (subst (λ (x : Move). is_exchangeable x old ≡ true) same test))
    (refill-mapped (redirected m.to m.from) rest new g ∙ ap (map (redirected m.to m.from)) e)
    (with-last before after insn (swap_insn (source m) (target m)) f made)

pub save-done : (word : ℕ) (old new : List Move) (i : ℕ) (m : Move) (scratch : Location) (before after : List Insn)
    (insn : Insn) → AreWaiting word old
    → ((n : Move) × (slice_get old i ≡ Some n) × (is_savable n ≡ true) × IsScratch word Two (place_of scratch)
    × (is_taken (place_of scratch) old ≡ false))
    → slice_get old i ≡ Some m → new ≡ map (redirected m.from scratch) old
    → insn ≡ copy_insn (source m) (place_of scratch) → after ≡ before ++ insn ∷ []
    → Advances word old (refill (length old) old new) before after
save-done word old new i m scratch before after insn waits (n, there, test, is, not_taken) here g made f =
    let same : n ≡ m = cc in
    same-step word old (map (redirected m.from scratch) old) (refill (length old) old new) before
    (before ++ copy_insn (source m) (place_of scratch) ∷ []) after
    (save-advances word old i m scratch before waits here (subst (λ (x : Move). is_savable x ≡ true) same test) is
    not_taken) (refill-mapped (redirected m.from scratch) old new g)
    (with-last before after insn (copy_insn (source m) (place_of scratch)) f made)

-- ---- the choice

pub nothing-savable : (word : ℕ) (waiting : List Move) → AreWaiting word waiting
    → position (λ m. is_free m waiting) waiting ≡ None → position (λ m. is_exchangeable m waiting) waiting ≡ None
    → position is_savable waiting ≡ None → waiting ≡ []
nothing-savable word [] waits a b c = refl
nothing-savable word (x ∷ xs) waits a b c =
    absurd (no-word-waits word x xs waits (none-found (λ m. is_free m (x ∷ xs)) (x ∷ xs) a)
    (none-found (λ m. is_exchangeable m (x ∷ xs)) (x ∷ xs) b) (none-found is_savable (x ∷ xs) c))

pub nothing-free : (word : ℕ) (waiting : List Move) (i : ℕ) → AreWaiting word waiting
    → position (λ m. is_free m waiting) waiting ≡ None → position (λ m. is_exchangeable m waiting) waiting ≡ None
    → position is_savable waiting ≡ Some i → AreTaken word waiting → waiting ≡ []
nothing-free word waiting i waits a b c taken =
    let found = found-at is_savable waiting i c in
    absurd (no-scratch-free word waiting waits (none-found (λ m. is_free m waiting) waiting a)
    (none-found (λ m. is_exchangeable m waiting) waiting b) taken i found.0 found.1 found.2)
