-- While a move waits there is a step that may come next.
use Rattle.std.proofs.Common.{◌≡◌, ◌≢◌, ℕ, zero, suc, ◌+◌, ◌%◌, ◌<◌, ◌≤◌, Bool, true, false, List, [], ◌∷◌, Some, length}
use Rattle.std.proofs.Common.{cond, map, refl, sym, ap, subst, ◌∙◌, inl, inr, arith}
use Rattle.std.specs.Prelude.{⊤, ◌⊎◌, ◌==◌, ◌&&◌, ◌||◌, not, slice_get, remove, filter}
use Rattle.std.specs.List.{AllByRecursion, list_all, list_any}
use Rattle.std.proofs.lemmas.Bool.Decides.{nat_tests}
use Rattle.std.proofs.lemmas.List.{length-map}
use Rattle.pcc_base.specs.declared.run.Width.{Width}
use Rattle.pcc_base.specs.declared.run.Width.TheVariants.{One, Two}
use Rattle.ia32_insn.specs.declared.register_names.Reg32.{Reg32}
use Rattle.ia32_insn.specs.declared.register_names.Reg32.TheVariants.{Eax, Ecx, Edx, Ebx, Esp, Ebp, Esi, Edi}
use Rattle.ia32_insn.specs.declared.register_names.Reg8.{Reg8}
use Rattle.ia32_insn.specs.declared.register_names.Reg8.TheVariants.{Al, Cl, Dl, Bl, Ah, Ch, Dh, Bh}
use Rattle.ia32_insn.specs.Registers.{number32, number8}
use Rattle.ia32_insn.specs.Places.{Place, InWord, InByte, InSlot}
use Rattle.ia32_rows.specs.Laws.{ArePlacesApart}
use Rattle.ia32_rows.proofs.Moves.{alike}
use Rattle.parallel_copies.specs.declared.moves.Move.{Move}
use Rattle.parallel_copies.specs.Overlap.{overlap, is_same, is_general}
use Rattle.parallel_copies.specs.Copies.{AreAllBeside, AreBeside, AreSlotsApart, IsPlaceFor, source, target}
use Rattle.parallel_copies.specs.Steps.{AreTaken, AreWaiting, IsScratch, IsWaiting, NotSlots, is_exchangeable, is_free}
use Rattle.parallel_copies.specs.Steps.{is_savable, is_taken, is_whole, lets}
use Rattle.parallel_copies.proofs.Lists.{AreDistinct, At, IsIn, all-at, all-from, all-into, all-map, all-two, all-pairs}
use Rattle.parallel_copies.proofs.Lists.{length-distinct, none-passes, pass-all, some-fails, some-passes}
use Rattle.parallel_copies.proofs.Apart.{apart-to, not-apart, one-place, one-word, slots-to}
use Rattle.parallel_copies.proofs.Beside.{beside-or_same}
use Rattle.parallel_copies.proofs.PlaceKinds.{IsSource, and-parts, general-test, general-two}

-- ---- lists

get-map : {X Y : Type 0} (f : X → Y) (xs : List X) (i : ℕ) (x : X) → slice_get xs i ≡ Some x
    → slice_get (map f xs) i ≡ Some (f x)
get-map f [] i x e = cc
get-map f (y ∷ ys) zero x e = let same : y ≡ x = cc in ap (λ z. Some (f z)) same
get-map f (y ∷ ys) (suc i) x e = get-map f ys i x e

any-at : {X : Type 0} (p : X → Bool) (xs : List X) (i : ℕ) (x : X) → slice_get xs i ≡ Some x → p x ≡ true
    → list_any p xs ≡ true
any-at p [] i x e h = cc
any-at p (y ∷ ys) zero x e h =
    let same : y ≡ x = cc in
    let here : p y ≡ true = ap p same ∙ h in rw here refl
any-at p (y ∷ ys) (suc i) x e h = or-true (p y) (list_any p ys) (any-at p ys i x e h)
  where
    or-true : (a b : Bool) → b ≡ true → (a || b) ≡ true
    or-true true b k = refl
    or-true false b k = k

pub all-filtered : {X : Type 0} (p : X → Bool) (Q : X → Type 0) (xs : List X)
    → AllByRecursion (λ x. p x ≡ true → Q x) xs → AllByRecursion Q (filter p xs)
all-filtered p Q [] h = tt
all-filtered {X} p Q (x ∷ xs) h = chosen (p x) refl (all-filtered p Q xs h.1)
  where
    chosen : (b : Bool) → p x ≡ b → AllByRecursion Q (filter p xs)
        → AllByRecursion Q (cond b (x ∷ filter p xs) (filter p xs))
    chosen true e rest = (h.0 e, rest)
    chosen false e rest = rest

in-filtered : {X : Type 0} (p : X → Bool) (xs : List X) (i : ℕ) (x : X) → slice_get xs i ≡ Some x → p x ≡ true
    → IsIn (filter p xs) x
in-filtered p [] i x e h = cc
in-filtered {X} p (y ∷ ys) zero x e h =
    let same : y ≡ x = cc in
    let here : p y ≡ true = ap p same ∙ h in
    subst (λ (b : Bool). IsIn (cond b (y ∷ filter p ys) (filter p ys)) x) (sym here) (zero, e)
in-filtered {X} p (y ∷ ys) (suc i) x e h = chosen (p y) (in-filtered p ys i x e h)
  where
    chosen : (b : Bool) → IsIn (filter p ys) x → IsIn (cond b (y ∷ filter p ys) (filter p ys)) x
    chosen true found = (suc found.0, found.1)
    chosen false found = found

pub beside-filtered : (p : Move → Bool) (xs : List Move) → AreAllBeside xs → AreAllBeside (filter p xs)
beside-filtered p [] h = tt
beside-filtered p (x ∷ xs) h =
    chosen (p x) (all-filtered p (AreBeside x) xs (all-map (AreBeside x) (λ y. p y ≡ true → AreBeside x y) xs
    (λ y b e. b) h.0)) (beside-filtered p xs h.1)
  where
    chosen : (b : Bool) → AllByRecursion (AreBeside x) (filter p xs) → AreAllBeside (filter p xs)
        → AreAllBeside (cond b (x ∷ filter p xs) (filter p xs))
    chosen true all rest = (all, rest)
    chosen false all rest = rest

-- ---- tests

or-false : (a b : Bool) → (a || b) ≡ false → (a ≡ false) × (b ≡ false)
or-false true b e = cc
or-false false b e = (refl, e)

pub not-false : (b : Bool) → not b ≡ false → b ≡ true
not-false true e = refl
not-false false e = cc

clash : (b : Bool) → b ≡ true → b ≡ false → ⊥
clash b e f = cc

number-self : (n : ℕ) → (n == n) ≡ true
number-self n = grind (arith, nat_tests)

-- ---- what keeps a move waiting

-- no slot stands in two places of the moves
slots-among : (p q : Place) → NotSlots p q → AreSlotsApart p q
slots-among (InSlot k) (InSlot j) h = absurd h
slots-among (InSlot k) (InWord r) h = tt
slots-among (InSlot k) (InByte r) h = tt
slots-among (InWord r) q h = tt
slots-among (InByte r) q h = tt

among : (word : ℕ) (moves : List Move) (i j : ℕ) (m n : Move) → AreWaiting word moves → slice_get moves i ≡ Some m
    → slice_get moves j ≡ Some n → AreSlotsApart (source n) (target m)
among word moves i j m n waits there other =
    elim (all-at (λ x. (n ≡ x) ⊎ AreBeside n x) moves i m there (beside-or_same moves j n other waits.beside)) [
      | inl same ↦ subst (λ (x : Move). AreSlotsApart (source x) (target m)) (sym same)
          (slots-among (source m) (target m) (all-at (IsWaiting word) moves i m there waits.each).slots)
      | inr b ↦ b.from_to
    ]

-- how a place from which a move comes has a part of one to which another leads
data Blocks (to_width from_width : Width) (from to : Place) : Type 0 where
  Whole : is_same from to ≡ true → from_width ≡ to_width → Blocks to_width from_width from to
  Part : to_width ≡ Two → from_width ≡ One → Blocks to_width from_width from to
  Around : to_width ≡ One → is_general from ≡ true → Blocks to_width from_width from to

slot-clash : (j k : ℕ) → AreSlotsApart (InSlot j) (InSlot k) → overlap (InSlot j) (InSlot k) ≡ true → ⊥
slot-clash j k h e = clash (overlap (InSlot j) (InSlot k)) e (slots-to j k h)

far : (n p : ℕ) → 4 ≤ p → n % 4 ≡ p → ⊥
far n p high e = omega arith

byte-of_general : (word : ℕ) (q : Reg32) (b : Reg8) → IsSource word Two (InWord q) → overlap (InWord q) (InByte b) ≡ true
    → is_general (InWord q) ≡ true
byte-of_general word q b (inl h) e = general-test q h
byte-of_general word Esi b (inr h) e = absurd (far (number8 b) 6 (omega arith) (alike (number8 b % 4) 6 e))
byte-of_general word Edi b (inr h) e = absurd (far (number8 b) 7 (omega arith) (alike (number8 b % 4) 7 e))
byte-of_general word Eax b (inr h) e = absurd h
byte-of_general word Ecx b (inr h) e = absurd h
byte-of_general word Edx b (inr h) e = absurd h
byte-of_general word Ebx b (inr h) e = absurd h
byte-of_general word Esp b (inr h) e = absurd h
byte-of_general word Ebp b (inr h) e = absurd h

blocks : (word : ℕ) (d w : Width) (from to : Place) → IsPlaceFor word d to → IsSource word w from
    → AreSlotsApart from to → overlap from to ≡ true → Blocks d w from to
blocks word Two Two (InWord q) (InWord r) fits comes slots e = Whole e refl
blocks word Two One (InWord q) (InWord r) fits (inl h) slots e = absurd h
blocks word Two One (InWord q) (InWord r) fits (inr h) slots e = absurd h
blocks word Two Two (InByte q) (InWord r) fits (inl h) slots e = absurd h
blocks word Two Two (InByte q) (InWord r) fits (inr h) slots e = absurd h
blocks word Two One (InByte q) (InWord r) fits comes slots e = Part refl refl
blocks word Two w (InSlot j) (InWord r) fits comes slots e = cc
blocks word Two w from (InByte r) fits comes slots e = absurd fits
blocks word One w from (InWord r) fits comes slots e = absurd fits
blocks word One Two (InWord q) (InByte r) fits comes slots e = Around refl (byte-of_general word q r comes e)
blocks word One One (InWord q) (InByte r) fits (inl h) slots e = absurd h
blocks word One One (InWord q) (InByte r) fits (inr h) slots e = absurd h
blocks word One Two (InByte q) (InByte r) fits (inl h) slots e = absurd h
blocks word One Two (InByte q) (InByte r) fits (inr h) slots e = absurd h
blocks word One One (InByte q) (InByte r) fits comes slots e = Whole e refl
blocks word One w (InSlot j) (InByte r) fits comes slots e = cc
blocks word d w (InSlot j) (InSlot k) fits comes slots e = absurd (slot-clash j k slots e)
blocks word d w (InWord q) (InSlot k) fits comes slots e = cc
blocks word d w (InByte q) (InSlot k) fits comes slots e = cc

-- and then the latter is a register
register-test : (from to : Place) → AreSlotsApart from to → overlap from to ≡ true → is_same to to ≡ true
register-test from (InWord r) h e = number-self (number32 r)
register-test from (InByte r) h e = number-self (number8 r)
register-test (InSlot j) (InSlot k) h e = absurd (slot-clash j k h e)
register-test (InWord q) (InSlot k) h e = cc
register-test (InByte q) (InSlot k) h e = cc

-- a move that isn't free
record IsBlocked (moves : List Move) (m : Move) : Type 0 where
  index : ℕ
  by : Move
  there : slice_get moves index ≡ Some by
  blocking : Blocks m.width by.width (source by) (target m)
  register : is_same (target m) (target m) ≡ true
  other : is_same (source m) (target m) ≡ false

blocked : (word : ℕ) (moves : List Move) (i : ℕ) (m : Move) → AreWaiting word moves → slice_get moves i ≡ Some m
    → is_free m moves ≡ false → IsBlocked moves m
blocked word moves i m waits there test =
    let parts = or-false (is_same (source m) (target m)) (list_all (lets m) moves) test in
    let found = some-fails (lets m) moves parts.1 in
    let n : Move = found.element in
    let meets = not-false (overlap (source n) (target m))
    (or-false (overlap (target n) (target m)) (not (overlap (source n) (target m))) found.holds).1 in
    let slots = among word moves i found.index m n waits there found.there in
    record {
      index = found.index;
      by = n;
      there = found.there;
      blocking = blocks word m.width n.width (source n) (target m)
          (all-at (IsWaiting word) moves i m there waits.each).to_fits
          (all-at (IsWaiting word) moves found.index n found.there waits.each).from_fits slots meets;
      register = register-test (source n) (target m) slots meets;
      other = parts.0;
    }

-- ---- an exchange among moves of one width

targets-distinct : (xs : List Move) → AreAllBeside xs → AllByRecursion (λ m. is_same (target m) (target m) ≡ true) xs
    → AreDistinct (map target xs)
targets-distinct [] h r = tt
targets-distinct (x ∷ xs) h r = (
  all-into (AreBeside x) (λ p. target x ≢ p) target xs
      (λ y b e. not-apart (target x) (target y)
      (subst (λ (p : Place). is_same (target x) p ≡ true) e r.0) b.targets) h.0,
  targets-distinct xs h.1 r.1,
)

-- where each place to which they lead is one from which one of them comes, each from which they come is one to which one
-- leads
leads-back : (xs : List Move) → AreAllBeside xs → AllByRecursion (λ m. is_same (target m) (target m) ≡ true) xs
    → AllByRecursion (λ m. At (λ n. source n ≡ target m) xs) xs → (i : ℕ) (m : Move) → slice_get xs i ≡ Some m
    → list_any (λ n. is_same (target n) (source m)) xs ≡ true
leads-back xs beside registers from i m there = chosen (list_any (λ n. is_same (target n) (source m)) xs) refl
  where
    chosen : (b : Bool) → list_any (λ n. is_same (target n) (source m)) xs ≡ b → b ≡ true
    chosen true e = refl
    chosen false e =
        let none = none-passes (λ n. is_same (target n) (source m)) xs e in
        let first : AllByRecursion (λ p. source m ≢ p) (map target xs) =
        all-into (λ n. (is_same (target n) (source m) ≡ false) × (is_same (target n) (target n) ≡ true))
        (λ p. source m ≢ p) target xs
        (λ n k same. clash (is_same (target n) (source m))
        (subst (λ (p : Place). is_same (target n) p ≡ true) (sym same) k.1) k.0)
        (all-pairs (λ n. is_same (target n) (source m) ≡ false) (λ n. is_same (target n) (target n) ≡ true) xs none
        registers) in
        let inside : AllByRecursion (IsIn (map source xs)) (map target xs) =
        all-into (λ n. At (λ o. source o ≡ target n) xs) (IsIn (map source xs)) target xs
        (λ n a. (a.index, get-map source xs a.index a.element a.there ∙ ap Some a.holds)) from in
        let few = length-distinct (source m ∷ map target xs) (map source xs)
        (first, targets-distinct xs beside registers) ((i, get-map source xs i m there), inside) in
        let a = length-map xs source in
        let b = length-map xs target in
        absurd (omega (arith, few, a, b))

-- some moves are kept waiting by one another alone, each by a whole place
abbrev IsClosed : List Move → (Move → Bool) → Type 0
IsClosed moves p =
    (i j : ℕ) (m n : Move) → slice_get moves i ≡ Some m → slice_get moves j ≡ Some n → p m ≡ true
    → Blocks m.width n.width (source n) (target m) → (is_same (source n) (target m) ≡ true) × (p n ≡ true)

or-last : (a : Bool) → (a || true) ≡ true
or-last true = refl
or-last false = refl

or-more : (a b c : Bool) → (a || b) ≡ true → (b ≡ true → c ≡ true) → (a || c) ≡ true
or-more true b c k more = refl
or-more false b c k more = more k

any-filtered : (q p : Move → Bool) (xs : List Move) → list_any q (filter p xs) ≡ true → list_any q xs ≡ true
any-filtered q p [] e = e
any-filtered q p (x ∷ xs) e = chosen (p x) e (any-filtered q p xs)
  where
    chosen : (b : Bool) → list_any q (cond b (x ∷ filter p xs) (filter p xs)) ≡ true
        → (list_any q (filter p xs) ≡ true → list_any q xs ≡ true) → (q x || list_any q xs) ≡ true
    chosen true k more = or-more (q x) (list_any q (filter p xs)) (list_any q xs) k more
    chosen false k more = or-more (q x) true (list_any q xs) (or-last (q x)) (λ e. more k)

-- then each of them may be exchanged
exchangeable-in : (word : ℕ) (moves : List Move) (p : Move → Bool) → AreWaiting word moves
    → AllByRecursion (λ m. is_free m moves ≡ false) moves → IsClosed moves p
    → (i : ℕ) (m : Move) → slice_get moves i ≡ Some m → p m ≡ true → is_exchangeable m moves ≡ true
exchangeable-in word moves p waits stuck closed i m there chosen =
    let some : List Move = filter p moves in
    let each : (k : ℕ) (x : Move) → slice_get moves k ≡ Some x → IsBlocked moves x =
    λ k x at. blocked word moves k x waits at (all-at (λ y. is_free y moves ≡ false) moves k x at stuck) in
    let registers : AllByRecursion (λ x. is_same (target x) (target x) ≡ true) some =
    all-filtered p (λ x. is_same (target x) (target x) ≡ true) moves
    (all-from (λ x. p x ≡ true → is_same (target x) (target x) ≡ true) moves (λ k x at e. (each k x at).register)) in
    let from : AllByRecursion (λ x. At (λ n. source n ≡ target x) some) some =
    all-filtered p (λ x. At (λ n. source n ≡ target x) some) moves
    (all-from (λ x. p x ≡ true → At (λ n. source n ≡ target x) some) moves (λ k x at e.
    let b = each k x at in
    let whole = closed k b.index x b.by at b.there e b.blocking in
    let found = in-filtered p moves b.index b.by b.there whole.1 in
    record {
      index = found.0;
      element = b.by;
      there = found.1;
      holds = one-place (source b.by) (target x) whole.0;
    })) in
    let mine = in-filtered p moves i m there chosen in
    let to = any-filtered (λ n. is_same (target n) (source m)) p moves
    (leads-back some (beside-filtered p moves waits.beside) registers from mine.0 m mine.1) in
    let b = each i m there in
    let whole = closed i b.index m b.by there b.there chosen b.blocking in
    let comes = any-at (λ n. is_same (source n) (target m)) moves b.index b.by b.there whole.0 in
    let all = pass-all (is_whole m) moves (all-from (λ n. is_whole m n ≡ true) moves (λ k n at.
    test (overlap (source n) (target m)) refl (is_same (source n) (target m)) (λ meets.
    (closed i k m n there at chosen
    (blocks word m.width n.width (source n) (target m)
    (all-at (IsWaiting word) moves i m there waits.each).to_fits
    (all-at (IsWaiting word) moves k n at waits.each).from_fits
    (among word moves i k m n waits there at) meets)).0))) in
    together (is_same (source m) (target m)) (list_any (λ n. is_same (target n) (source m)) moves)
    (list_any (λ n. is_same (source n) (target m)) moves) (list_all (is_whole m) moves) b.other to comes all
  where
    test : (o : Bool) {v : Bool} → v ≡ o → (s : Bool) → (v ≡ true → s ≡ true) → (s || not o) ≡ true
    test true e s f = rw (f e) refl
    test false e true f = refl
    test false e false f = refl

    together : (a b c d : Bool) → a ≡ false → b ≡ true → c ≡ true → d ≡ true → (not a && b && c && d) ≡ true
    together false true true true e f g h = refl
    together true b c d e f g h = cc
    together false false c d e f g h = cc
    together false true false d e f g h = cc
    together false true true false e f g h = cc

-- ---- no word can go to scratch

abbrev is_byte : Width → Bool
is_byte One = true
is_byte Two = false

abbrev is_one : Move → Bool
is_one m = is_byte m.width

one-byte_wide : (d : Width) → One ≡ d → is_byte d ≡ true
one-byte_wide One e = refl
one-byte_wide Two e = cc

-- a word that leads to a register leads to a general one
general-target : (word : ℕ) (d : Width) (p : Place) → IsPlaceFor word d p → Two ≡ d → is_same p p ≡ true
    → is_general p ≡ true
general-target word Two (InWord r) h e k = general-test r h
general-target word Two (InByte r) h e k = absurd h
general-target word Two (InSlot j) h e k = cc
general-target word One p h e k = cc

-- no word waits in a general register
none-general : (word : ℕ) (moves : List Move) → AreWaiting word moves
    → AllByRecursion (λ m. is_free m moves ≡ false) moves → AllByRecursion (λ m. is_savable m ≡ false) moves
    → (j : ℕ) (n : Move) → slice_get moves j ≡ Some n → is_general (source n) ≡ true → ⊥
none-general word moves waits stuck none j n there general =
    let mine = all-at (IsWaiting word) moves j n there waits.each in
    let b = blocked word moves j n waits there (all-at (λ y. is_free y moves ≡ false) moves j n there stuck) in
    let to = general-target word n.width (target n) mine.to_fits
    (general-two word n.width (source n) general mine.from_fits) b.register in
    let no_saving = all-at (λ y. is_savable y ≡ false) moves j n there none in
    both (is_general (source n)) (is_general (target n)) general to no_saving
  where
    both : (a b : Bool) → a ≡ true → b ≡ true → (a && b) ≡ false → ⊥
    both true true e f g = cc
    both true false e f g = cc
    both false b e f g = cc

-- so the moves of bytes are kept waiting by one another
bytes-closed : (word : ℕ) (moves : List Move) → AreWaiting word moves
    → AllByRecursion (λ m. is_free m moves ≡ false) moves → AllByRecursion (λ m. is_savable m ≡ false) moves
    → IsClosed moves is_one
bytes-closed word moves waits stuck none i j m n there other one (Whole same widths) =
    (same, ap is_byte widths ∙ one)
bytes-closed word moves waits stuck none i j m n there other one (Part two narrow) =
    absurd (clash (is_byte m.width) one (ap is_byte two))
bytes-closed word moves waits stuck none i j m n there other one (Around narrow general) =
    absurd (none-general word moves waits stuck none j n other general)

-- one of them is there
byte-there : (word : ℕ) (moves : List Move) (m n : Move) (i j : ℕ) → AreWaiting word moves
    → AllByRecursion (λ x. is_free x moves ≡ false) moves → AllByRecursion (λ x. is_savable x ≡ false) moves
    → slice_get moves i ≡ Some m → slice_get moves j ≡ Some n → is_same (target m) (target m) ≡ true
    → Blocks m.width n.width (source n) (target m) → At (λ x. is_one x ≡ true) moves
byte-there word moves m n i j waits stuck none there other register (Whole same widths) = sides m.width refl
  where
    sides : (d : Width) → m.width ≡ d → At (λ x. is_one x ≡ true) moves
    sides One e = record { index = i; element = m; there = there; holds = ap is_byte e }
    sides Two e =
        let to = general-target word m.width (target m)
        (all-at (IsWaiting word) moves i m there waits.each).to_fits (sym e) register in
        absurd (none-general word moves waits stuck none j n other
        (subst (λ (p : Place). is_general p ≡ true) (sym (one-place (source n) (target m) same)) to))
byte-there word moves m n i j waits stuck none there other register (Part two narrow) =
    record { index = j; element = n; there = other; holds = ap is_byte narrow }
byte-there word moves m n i j waits stuck none there other register (Around narrow general) =
    record { index = i; element = m; there = there; holds = ap is_byte narrow }

-- so there is an exchange
pub no-word-waits : (word : ℕ) (x : Move) (xs : List Move) → AreWaiting word (x ∷ xs)
    → AllByRecursion (λ m. is_free m (x ∷ xs) ≡ false) (x ∷ xs)
    → AllByRecursion (λ m. is_exchangeable m (x ∷ xs) ≡ false) (x ∷ xs)
    → AllByRecursion (λ m. is_savable m ≡ false) (x ∷ xs) → ⊥
no-word-waits word x xs waits stuck stays none =
    let moves : List Move = x ∷ xs in
    let b = blocked word moves zero x waits refl stuck.0 in
    let one = byte-there word moves x b.by zero b.index waits stuck none refl b.there b.register b.blocking in
    clash (is_exchangeable one.element moves)
    (exchangeable-in word moves is_one waits stuck (bytes-closed word moves waits stuck none) one.index one.element
    one.there one.holds)
    (all-at (λ m. is_exchangeable m moves ≡ false) moves one.index one.element one.there stays)

-- ---- no scratch is free

-- only words wait
words-closed : (moves : List Move) → AllByRecursion (λ m. is_one m ≡ false) moves → IsClosed moves (λ m. true)
words-closed moves words i j m n there other e (Whole same widths) = (same, refl)
words-closed moves words i j m n there other e (Part two narrow) =
    absurd (clash (is_byte n.width) (ap is_byte narrow) (all-at (λ x. is_one x ≡ false) moves j n other words))
words-closed moves words i j m n there other e (Around narrow general) =
    absurd (clash (is_byte m.width) (ap is_byte narrow) (all-at (λ x. is_one x ≡ false) moves i m there words))

-- the register of a byte
around : Reg8 → Reg32
around Al = Eax
around Cl = Ecx
around Dl = Edx
around Bl = Ebx
around Ah = Eax
around Ch = Ecx
around Dh = Edx
around Bh = Ebx

around-overlaps : (r : Reg8) → overlap (InByte r) (InWord (around r)) ≡ true
unfolding around
around-overlaps Al = refl
around-overlaps Cl = refl
around-overlaps Dl = refl
around-overlaps Bl = refl
around-overlaps Ah = refl
around-overlaps Ch = refl
around-overlaps Dh = refl
around-overlaps Bh = refl

around-general : (r : Reg8) → is_general (InWord (around r)) ≡ true
unfolding around
around-general Al = refl
around-general Cl = refl
around-general Dl = refl
around-general Bl = refl
around-general Ah = refl
around-general Ch = refl
around-general Dh = refl
around-general Bh = refl

abbrev pub four_words : List Place
four_words = InWord Eax ∷ InWord Ecx ∷ InWord Edx ∷ InWord Ebx ∷ []

pub general-in : (p : Place) → is_general p ≡ true → IsIn four_words p
general-in (InWord Eax) e = (0, refl)
general-in (InWord Ecx) e = (1, refl)
general-in (InWord Edx) e = (2, refl)
general-in (InWord Ebx) e = (3, refl)
general-in (InWord Esp) e = cc
general-in (InWord Ebp) e = cc
general-in (InWord Esi) e = cc
general-in (InWord Edi) e = cc
general-in (InByte r) e = cc
general-in (InSlot k) e = cc

abbrev is_two : Move → Bool
is_two m = not (is_one m)

two-wide : (d : Width) → not (is_byte d) ≡ true → Two ≡ d
two-wide Two e = refl
two-wide One e = cc

-- beside a byte at most three words can be reached
three-words : (word : ℕ) (moves : List Move) (i : ℕ) (m : Move) (r : Reg8) → AreWaiting word moves
    → AllByRecursion (λ x. is_free x moves ≡ false) moves → slice_get moves i ≡ Some m → is_one m ≡ true
    → target m ≡ InByte r → length (filter is_two moves) ≤ 3
three-words word moves i m r waits stuck there one byte =
    let words : List Move = filter is_two moves in
    let each : (k : ℕ) (x : Move) → slice_get moves k ≡ Some x → IsBlocked moves x =
    λ k x at. blocked word moves k x waits at (all-at (λ y. is_free y moves ≡ false) moves k x at stuck) in
    let registers : AllByRecursion (λ x. is_same (target x) (target x) ≡ true) words =
    all-filtered is_two (λ x. is_same (target x) (target x) ≡ true) moves
    (all-from (λ x. is_two x ≡ true → is_same (target x) (target x) ≡ true) moves (λ k x at e. (each k x at).register)) in
    let inside : AllByRecursion (λ x. IsIn four_words (target x)) words =
    all-filtered is_two (λ x. IsIn four_words (target x)) moves
    (all-from (λ x. is_two x ≡ true → IsIn four_words (target x)) moves (λ k x at e.
    general-in (target x) (general-target word x.width (target x)
    (all-at (IsWaiting word) moves k x at waits.each).to_fits (two-wide x.width e) (each k x at).register))) in
    let other : AllByRecursion (λ x. InWord (around r) ≢ target x) words =
    all-filtered is_two (λ x. InWord (around r) ≢ target x) moves
    (all-two (λ x. is_two x ≡ is_two x) (λ x. (m ≡ x) ⊎ AreBeside m x)
    (λ x. is_two x ≡ true → InWord (around r) ≢ target x) moves
    (λ x e either two same. elim either [
      | inl eq ↦ clash (is_one x) (ap is_one (sym eq) ∙ one) (not-one (is_one x) two)
      | inr b ↦ clash (overlap (target m) (target x))
          (subst (λ (p : Place). overlap p (target x) ≡ true) (sym byte)
          (subst (λ (p : Place). overlap (InByte r) p ≡ true) same (around-overlaps r)))
          (apart-to (target m) (target x) b.targets)
    ]) (all-from (λ x. is_two x ≡ is_two x) moves (λ k x at. refl)) (beside-or_same moves i m there waits.beside)) in
    let few = length-distinct (InWord (around r) ∷ map target words) four_words (
      all-into (λ x. InWord (around r) ≢ target x) (λ p. InWord (around r) ≢ p) target words (λ x h. h) other,
      targets-distinct words (beside-filtered is_two moves waits.beside) registers,
    ) (
      general-in (InWord (around r)) (around-general r),
      all-into (λ x. IsIn four_words (target x)) (IsIn four_words) target words (λ x h. h) inside,
    ) in
    let a = length-map words target in
    omega (arith, few, a)
  where
    not-one : (b : Bool) → not b ≡ true → b ≡ false
    not-one true e = cc
    not-one false e = refl

-- who waits for a word of scratch stands there
taken-word : (word : ℕ) (d : Width) (p : Place) (r : Reg32) → IsSource word d p → 4 ≤ number32 r
    → overlap p (InWord r) ≡ true → (p ≡ InWord r) × (Two ≡ d)
taken-word word Two (InWord q) r h high e = (ap InWord (one-word q r (alike (number32 q) (number32 r) e)), refl)
taken-word word Two (InByte q) r (inl h) high e = absurd h
taken-word word Two (InByte q) r (inr h) high e = absurd h
taken-word word One (InWord q) r (inl h) high e = absurd h
taken-word word One (InWord q) r (inr h) high e = absurd h
taken-word word One (InByte q) r h high e =
    absurd (far (number8 q) (number32 r) high (alike (number8 q % 4) (number32 r) e))
taken-word word d (InSlot k) r h high e = cc

taken-slot : (word : ℕ) (d : Width) (p : Place) → IsSource word d p → overlap p (InSlot word) ≡ true
    → (p ≡ InSlot word) × (Two ≡ d)
taken-slot word d (InWord q) h e = cc
taken-slot word d (InByte q) h e = cc
taken-slot word Two (InSlot k) (inl h) e = absurd (slot-clash k word h.0 e)
taken-slot word Two (InSlot k) (inr h) e = (ap InSlot h, refl)
taken-slot word One (InSlot k) (inl h) e = absurd (slot-clash k word h.0 e)
taken-slot word One (InSlot k) (inr h) e = absurd h

-- a place that is a source of the words
word-source : (moves : List Move) (p : Place) (j : ℕ) (n : Move) → slice_get moves j ≡ Some n
    → (source n ≡ p) × (Two ≡ n.width) → IsIn (map source (filter is_two moves)) p
word-source moves p j n there h =
    let found = in-filtered is_two moves j n there (ap (λ (d : Width). not (is_byte d)) (sym h.1)) in
    (found.0, get-map source (filter is_two moves) found.0 n found.1 ∙ ap Some h.0)

four-sources : (word : ℕ) (moves : List Move) (i : ℕ) (m : Move) → AreWaiting word moves → AreTaken word moves
    → slice_get moves i ≡ Some m → is_general (source m) ≡ true → 4 ≤ length (filter is_two moves)
four-sources word moves i m waits taken there general =
    let sources : List Place = map source (filter is_two moves) in
    let wait : (j : ℕ) (n : Move) → slice_get moves j ≡ Some n → IsSource word n.width (source n) =
    λ j n at. (all-at (IsWaiting word) moves j n at waits.each).from_fits in
    let a = some-passes (λ n. overlap (source n) (InWord Esi)) moves taken.esi in
    let b = some-passes (λ n. overlap (source n) (InWord Edi)) moves taken.edi in
    let c = some-passes (λ n. overlap (source n) (InSlot word)) moves taken.slot in
    let mine : IsIn sources (source m) =
    word-source moves (source m) i m there (refl, general-two word m.width (source m) general (wait i m there)) in
    let first : IsIn sources (InWord Esi) = word-source moves (InWord Esi) a.index a.element a.there
    (taken-word word a.element.width (source a.element) Esi (wait a.index a.element a.there) (omega arith) a.holds) in
    let second : IsIn sources (InWord Edi) = word-source moves (InWord Edi) b.index b.element b.there
    (taken-word word b.element.width (source b.element) Edi (wait b.index b.element b.there) (omega arith) b.holds) in
    let third : IsIn sources (InSlot word) = word-source moves (InSlot word) c.index c.element c.there
    (taken-slot word c.element.width (source c.element) (wait c.index c.element c.there) c.holds) in
    let apart : (p : Place) → is_general p ≡ false → source m ≢ p =
    λ p low e. clash (is_general p) (subst (λ (q : Place). is_general q ≡ true) e general) low in
    let few = length-distinct (source m ∷ InWord Esi ∷ InWord Edi ∷ InSlot word ∷ []) sources (
      (apart (InWord Esi) refl, (apart (InWord Edi) refl, (apart (InSlot word) refl, tt))),
      (((λ e. cc), ((λ e. cc), tt)), (((λ e. cc), tt), (tt, tt))),
    ) (mine, (first, (second, (third, tt)))) in
    let n = length-map (filter is_two moves) source in
    omega (arith, few, n)

-- where a move of a byte waits, it leads to a byte of a register
byte-target : (word : ℕ) (d : Width) (p : Place) → IsPlaceFor word d p → is_byte d ≡ true → is_same p p ≡ true
    → (r : Reg8) × (p ≡ InByte r)
byte-target word One (InWord r) h e k = absurd h
byte-target word One (InByte r) h e k = (r, refl)
byte-target word One (InSlot j) h e k = cc
byte-target word Two p h e k = cc

pub no-scratch-free : (word : ℕ) (moves : List Move) → AreWaiting word moves
    → AllByRecursion (λ m. is_free m moves ≡ false) moves
    → AllByRecursion (λ m. is_exchangeable m moves ≡ false) moves → AreTaken word moves
    → (i : ℕ) (m : Move) → slice_get moves i ≡ Some m → is_savable m ≡ true → ⊥
no-scratch-free word moves waits stuck stays taken i m there test =
    sides (list_any is_one moves) refl
  where
    parts : (is_general (source m) ≡ true) × (is_general (target m) ≡ true)
    parts = and-parts (is_general (source m)) (is_general (target m)) test

    sides : (b : Bool) → list_any is_one moves ≡ b → ⊥
    sides false e =
        clash (is_exchangeable m moves)
        (exchangeable-in word moves (λ x. true) waits stuck (words-closed moves (none-passes is_one moves e)) i m there
        refl) (all-at (λ x. is_exchangeable x moves ≡ false) moves i m there stays)
    sides true e =
        let one = some-passes is_one moves e in
        let n : Move = one.element in
        let b = blocked word moves one.index n waits one.there
        (all-at (λ y. is_free y moves ≡ false) moves one.index n one.there stuck) in
        let byte = byte-target word n.width (target n)
        (all-at (IsWaiting word) moves one.index n one.there waits.each).to_fits one.holds b.register in
        let few = three-words word moves one.index n byte.0 waits stuck one.there one.holds byte.1 in
        let many = four-sources word moves i m waits taken there parts.0 in
        absurd (omega (arith, few, many))
