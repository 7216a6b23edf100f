-- Where one step of the copies leads, so that the moves that are left give what all gave.
use Rattle.std.proofs.Common.{◌≡◌, ◌≢◌, ℕ, ◌+◌, ◌<◌, ◌≤◌, Bool, true, false, List, [], ◌∷◌, Some, map, refl, sym, ap, subst}
use Rattle.std.proofs.Common.{◌∙◌, inl, inr, arith}
use Rattle.std.specs.Prelude.{⊤, ◌⊎◌, slice_get, remove}
use Rattle.std.specs.List.{AllByRecursion}
use Rattle.pcc_base.specs.declared.run.Width.{Width}
use Rattle.pcc_base.specs.declared.run.Width.TheVariants.{One, Two}
use Rattle.ia32_insn.specs.declared.register_names.Reg32.TheVariants.{Ebp, Esi, Edi}
use Rattle.ia32_insn.specs.Places.{Place}
use Rattle.ia32_insn.specs.State.{State}
use Rattle.ia32_insn.specs.Meaning.{word_of}
use Rattle.ia32_rows.specs.Sites.{Site, Framed, Anywhere}
use Rattle.ia32_rows.specs.Effects.{Keeps, OutsideWord}
use Rattle.ia32_rows.specs.Contains.{Contains, OutsidePlace}
use Rattle.ia32_rows.specs.Laws.{ArePlacesApart}
use Rattle.ia32_rows.proofs.Kept.{keeps-same, keeps-stricter, word-kept}
use Rattle.ia32_emit.specs.declared.locations.Location.{Location}
use Rattle.ia32_emit.specs.Locations.{place_of}
use Rattle.parallel_copies.specs.declared.moves.Move.{Move}
use Rattle.parallel_copies.specs.Overlap.{is_same}
use Rattle.parallel_copies.specs.Copies.{ApartFromAll, ApartFromTarget, AreBeside, Copied, Holds, IsInside, Moves, OutsideAll}
use Rattle.parallel_copies.specs.Copies.{source, target}
use Rattle.parallel_copies.specs.Steps.{AreWaiting, Came, IsScratch, IsWaiting, NotSlots, Reaches, copy_insn, redirected}
use Rattle.parallel_copies.specs.Steps.{swap_insn}
use Rattle.parallel_copies.proofs.Lists.{all-map, all-two, all-into, all-back, all-at, all-pairs, all-removed, all-restored}
use Rattle.parallel_copies.proofs.Apart.{apart-flip, one-place}
use Rattle.parallel_copies.proofs.Beside.{beside-at, redirected-has}
use Rattle.parallel_copies.proofs.Single.{CanTake, CanExchange, AreOther, OutsideBoth, copy-carries, swap-exchanges}
use Rattle.parallel_copies.proofs.Keeping.{can-take, stack-cells, contains-beside, contains-beside_both, contains-after}
use Rattle.parallel_copies.proofs.Keeping.{keeps-rest, contains-once}

-- a number that a place has after a step where another had it before
abbrev Passes : State → State → Width → Place → Place → Type 0
Passes s u width p q = (n : ℕ) → Contains s width p n → Contains u width q n

-- ---- a copy

-- where the place that a move leads to is apart from what the others wait for
pub copy-reaches : (word : ℕ) (moves : List Move) (i : ℕ) (m : Move) → AreWaiting word moves → slice_get moves i ≡ Some m
    → AllByRecursion (λ n. ArePlacesApart (source n) (target m)) (remove moves i)
    → Reaches word moves (remove moves i) (copy_insn (source m) (target m) ∷ [])
copy-reaches word moves i m waits there free site frame s framed low high holds =
    let rest : List Move = remove moves i in
    let mine = all-at (IsWaiting word) moves i m there waits.each in
    let held = all-at (Holds frame s) moves i m there holds in
    let takes = can-take word m.width (target m) mine.to_fits in
    let made = copy-carries site frame m.width (source m) (target m) held.number s framed takes mine.slots held.contains
    held.fits held.from_inside held.to_inside in
    let u : State = made.0 in
    let c = made.1 in
    let base : word_of Ebp u ≡ word_of Ebp s = word-kept (OutsidePlace (target m))
    (ApartFromTarget (word_of Ebp s) m.width (target m)) Ebp s u c.keeps (stack-cells m.width (target m) takes).1 in
    let still : (n : Move) → ArePlacesApart (source n) (target m) → Holds frame s n
    → Passes s u n.width (source n) (source n) =
    λ n apart h k is. contains-beside site frame s u m.width (target m) framed takes held.to_inside c.keeps n.width
    (source n) k apart h.from_inside is in
    let others = all-removed (Holds frame s) moves i m there holds in
    let now : AllByRecursion (Holds frame u) rest =
    all-two (λ n. ArePlacesApart (source n) (target m)) (Holds frame s) (Holds frame u) rest
    (λ n apart h. record {
      number = h.number;
      contains = still n apart h h.number h.contains;
      fits = h.fits;
      from_inside = h.from_inside;
      to_inside = h.to_inside;
    }) free others in
    let waits_rest = all-removed (IsWaiting word) moves i m there waits.each in
    let apart = all-map (AreBeside m) (λ n. ArePlacesApart (target m) (target n)) rest (λ n b. b.targets)
    (beside-at moves i m there waits.beside) in
    let first : Keeps (OutsideAll moves) (ApartFromAll (word_of Ebp s) word moves) s u =
    keeps-stricter (OutsidePlace (target m)) (OutsideAll moves) (ApartFromTarget (word_of Ebp s) m.width (target m))
    (ApartFromAll (word_of Ebp s) word moves) s u
    (λ k q. all-at (λ n. OutsidePlace (target n) k) moves i m there q.0)
    (λ a k l. all-at (λ n. ApartFromTarget (word_of Ebp s) n.width (target n) a k) moves i m there l.0) c.keeps in (
      u,
      record {
        leads = c.leads;
        framed = c.framed;
        holds = now;
        rest = λ t copied. record {
          moved = all-restored (Moves s t) moves i m there
              (λ k is. contains-after site frame word rest u t c.framed low high waits_rest now copied.keeps m.width
              (target m) k mine.to_fits held.to_inside apart
              (subst (λ (v : ℕ). Contains u m.width (target m) v)
              (contains-once s m.width (source m) held.number k held.contains is) c.contains))
              (all-two (λ n. ArePlacesApart (source n) (target m) × Holds frame s n) (Moves u t) (Moves s t) rest
              (λ n p moves_n k is. moves_n k (still n p.0 p.1 k is))
              (all-pairs (λ n. ArePlacesApart (source n) (target m)) (Holds frame s) rest free others) copied.moved);
          keeps = keeps-rest word moves rest s u t base first
              (λ k q. (all-removed (λ n. OutsidePlace (target n) k) moves i m there q.0, q.1, q.2))
              (λ b a k l.
              (all-removed (λ n. ApartFromTarget b n.width (target n) a k) moves i m there l.0, l.1)) copied.keeps;
        };
      },
    )

-- ---- nothing to do

-- where the two places of a move are one
pub idle-reaches : (word : ℕ) (moves : List Move) (i : ℕ) (m : Move) → AreWaiting word moves → slice_get moves i ≡ Some m
    → source m ≡ target m → Reaches word moves (remove moves i) []
idle-reaches word moves i m waits there same site frame s framed low high holds =
    let rest : List Move = remove moves i in
    let mine = all-at (IsWaiting word) moves i m there waits.each in
    let held = all-at (Holds frame s) moves i m there holds in
    let now = all-removed (Holds frame s) moves i m there holds in
    let waits_rest = all-removed (IsWaiting word) moves i m there waits.each in
    let apart = all-map (AreBeside m) (λ n. ArePlacesApart (target m) (target n)) rest (λ n b. b.targets)
    (beside-at moves i m there waits.beside) in (
      s,
      record {
        leads = refl;
        framed = framed;
        holds = now;
        rest = λ t copied. record {
          moved = all-restored (Moves s t) moves i m there
              (λ k is. contains-after site frame word rest s t framed low high waits_rest now copied.keeps m.width
              (target m) k mine.to_fits held.to_inside apart
              (subst (λ (p : Place). Contains s m.width p k) same is)) copied.moved;
          keeps = keeps-rest word moves rest s s t refl
              (keeps-same (OutsideAll moves) (ApartFromAll (word_of Ebp s) word moves) s)
              (λ k q. (all-removed (λ n. OutsidePlace (target n) k) moves i m there q.0, q.1, q.2))
              (λ b a k l.
              (all-removed (λ n. ApartFromTarget b n.width (target n) a k) moves i m there l.0, l.1)) copied.keeps;
        };
      },
    )

-- ---- an exchange

-- what another move needs of it: it comes from where the exchanged move leads to, or from a place apart from both
pub record IsBesideSwap (m n : Move) : Type 0 where
  pub whole : is_same (source n) (target m) ≡ false → ArePlacesApart (source n) (target m)
  pub beside : AreBeside m n

pub swap-reaches : (word : ℕ) (moves : List Move) (i : ℕ) (m : Move) (j : ℕ) (o : Move) → AreWaiting word moves
    → slice_get moves i ≡ Some m → slice_get moves j ≡ Some o → target o ≡ source m → CanExchange m.width (source m)
    → CanExchange m.width (target m) → AreOther (source m) (target m)
    → AllByRecursion (IsBesideSwap m) (remove moves i)
    → AllByRecursion (IsWaiting word) (map (redirected m.to m.from) (remove moves i))
    → Reaches word moves (map (redirected m.to m.from) (remove moves i)) (swap_insn (source m) (target m) ∷ [])
swap-reaches word moves i m j o waits there other_there leads_back first second other beside waits_new site frame s framed low
    high holds =
    let rest : List Move = remove moves i in
    let turn : Move → Move = redirected m.to m.from in
    let mine = all-at (IsWaiting word) moves i m there waits.each in
    let held = all-at (Holds frame s) moves i m there holds in
    let made = swap-exchanges site frame m.width (source m) (target m) s framed first second other in
    let u : State = made.0 in
    let x = made.1 in
    let base : word_of Ebp u ≡ word_of Ebp s =
    word-kept (OutsideBoth (source m) (target m)) Anywhere Ebp s u x.keeps x.stack in
    let each : AllByRecursion (λ n. Holds frame u (turn n) × ((t : State) → Moves u t (turn n) → Moves s t n)) rest =
    all-two (IsBesideSwap m) (Holds frame s)
    (λ n. Holds frame u (turn n) × ((t : State) → Moves u t (turn n) → Moves s t n)) rest
    (λ n b h. redirected-has (λ v. Holds frame u v × ((t : State) → Moves u t v → Moves s t n)) m.to m.from n
    (λ same.
    let goes : Passes s u n.width (source n) (source m) = λ k is. x.back n.width k
    (subst (λ (p : Place). Contains s n.width p k) (one-place (source n) (target m) same) is) in (
      record {
        number = h.number;
        contains = goes h.number h.contains;
        fits = h.fits;
        from_inside = held.from_inside;
        to_inside = h.to_inside;
      },
      λ t moves_n k is. moves_n k (goes k is),
    ))
    (λ same.
    let goes : Passes s u n.width (source n) (source n) = λ k is.
    contains-beside_both s u (source m) (target m) x.stack x.keeps n.width (source n) k
    (apart-flip (source m) (source n) b.beside.sources) (b.whole same) is in (
      record {
        number = h.number;
        contains = goes h.number h.contains;
        fits = h.fits;
        from_inside = h.from_inside;
        to_inside = h.to_inside;
      },
      λ t moves_n k is. moves_n k (goes k is),
    ))) beside (all-removed (Holds frame s) moves i m there holds) in
    let now : AllByRecursion (Holds frame u) (map turn rest) =
    all-into (λ n. Holds frame u (turn n) × ((t : State) → Moves u t (turn n) → Moves s t n)) (Holds frame u) turn rest
    (λ n p. p.0) each in
    let apart : AllByRecursion (λ n. ArePlacesApart (target m) (target n)) (map turn rest) =
    all-into (IsBesideSwap m) (λ n. ArePlacesApart (target m) (target n)) turn rest
    (λ n b. redirected-has (λ v. ArePlacesApart (target m) (target v)) m.to m.from n (λ e. b.beside.targets)
    (λ e. b.beside.targets)) beside in
    let first_keeps : Keeps (OutsideAll moves) (ApartFromAll (word_of Ebp s) word moves) s u =
    keeps-stricter (OutsideBoth (source m) (target m)) (OutsideAll moves) Anywhere
    (ApartFromAll (word_of Ebp s) word moves) s u
    (λ k q. (
      subst (λ (p : Place). OutsidePlace p k) leads_back
          (all-at (λ n. OutsidePlace (target n) k) moves j o other_there q.0),
      all-at (λ n. OutsidePlace (target n) k) moves i m there q.0,
    )) (λ a k l. tt) x.keeps in (
      u,
      record {
        leads = x.leads;
        framed = x.framed;
        holds = now;
        rest = λ t copied. record {
          moved = all-restored (Moves s t) moves i m there
              (λ k is. contains-after site frame word (map turn rest) u t x.framed low high waits_new now copied.keeps
              m.width (target m) k mine.to_fits held.to_inside apart (x.forth m.width k is))
              (all-two (λ n. Holds frame u (turn n) × ((v : State) → Moves u v (turn n) → Moves s v n))
              (λ n. Moves u t (turn n)) (Moves s t) rest (λ n p moves_n. p.1 t moves_n) each
              (all-back (Moves u t) turn rest copied.moved));
          keeps = keeps-rest word moves (map turn rest) s u t base first_keeps
              (λ k q. (
                all-into (λ n. OutsidePlace (target n) k) (λ n. OutsidePlace (target n) k) turn rest
                    (λ n p. redirected-has (λ v. OutsidePlace (target v) k) m.to m.from n (λ e. p) (λ e. p))
                    (all-removed (λ n. OutsidePlace (target n) k) moves i m there q.0),
                q.1,
                q.2,
              ))
              (λ b a k l. (
                all-into (λ n. ApartFromTarget b n.width (target n) a k)
                    (λ n. ApartFromTarget b n.width (target n) a k) turn rest
                    (λ n p. redirected-has (λ v. ApartFromTarget b v.width (target v) a k) m.to m.from n (λ e. p)
                    (λ e. p))
                    (all-removed (λ n. ApartFromTarget b n.width (target n) a k) moves i m there l.0),
                l.1,
              )) copied.keeps;
        };
      },
    )

-- ---- a word to scratch

-- what another move needs of it: it waits for the same word, or for a place apart from scratch
pub record IsBesideSave (scratch : Place) (m n : Move) : Type 0 where
  pub apart : is_same (source n) (source m) ≡ false → ArePlacesApart (source n) scratch
  pub width : is_same (source n) (source m) ≡ true → n.width ≡ m.width

pub save-reaches : (word : ℕ) (moves : List Move) (i : ℕ) (m : Move) (scratch : Location) → AreWaiting word moves
    → slice_get moves i ≡ Some m → CanTake m.width (place_of scratch) → NotSlots (source m) (place_of scratch)
    → ((frame : ℕ) → 4 ≤ word → word ≤ frame → IsInside frame (place_of scratch))
    → ((k : ℕ) → OutsideWord Esi k → OutsideWord Edi k → OutsidePlace (place_of scratch) k)
    → ((base a n : ℕ) → ApartFromAll base word moves a n → ApartFromTarget base m.width (place_of scratch) a n)
    → AllByRecursion (IsBesideSave (place_of scratch) m) moves
    → Reaches word moves (map (redirected m.from scratch) moves) (copy_insn (source m) (place_of scratch) ∷ [])
save-reaches word moves i m scratch waits there takes slots inside cells memory beside site frame s framed low high holds =
    let turn : Move → Move = redirected m.from scratch in
    let to : Place = place_of scratch in
    let held = all-at (Holds frame s) moves i m there holds in
    let within : IsInside frame to = inside frame low high in
    let made = copy-carries site frame m.width (source m) to held.number s framed takes slots held.contains held.fits
    held.from_inside within in
    let u : State = made.0 in
    let c = made.1 in
    let base : word_of Ebp u ≡ word_of Ebp s = word-kept (OutsidePlace to)
    (ApartFromTarget (word_of Ebp s) m.width to) Ebp s u c.keeps (stack-cells m.width to takes).1 in
    let each : AllByRecursion (λ n. Holds frame u (turn n) × ((t : State) → Moves u t (turn n) → Moves s t n)) moves =
    all-two (IsBesideSave to m) (Holds frame s)
    (λ n. Holds frame u (turn n) × ((t : State) → Moves u t (turn n) → Moves s t n)) moves
    (λ n b h. redirected-has (λ v. Holds frame u v × ((t : State) → Moves u t v → Moves s t n)) m.from scratch n
    (λ same.
    let goes : Passes s u n.width (source n) to = λ k is.
    let here : Contains s n.width (source m) k =
    subst (λ (p : Place). Contains s n.width p k) (one-place (source n) (source m) same) is in
    let mine : Contains s m.width (source m) k =
    subst (λ (w : Width). Contains s w (source m) k) (b.width same) here in
    let put : Contains u m.width to k = subst (λ (v : ℕ). Contains u m.width to v)
    (contains-once s m.width (source m) held.number k held.contains mine) c.contains in
    subst (λ (w : Width). Contains u w to k) (sym (b.width same)) put in (
      record {
        number = h.number;
        contains = goes h.number h.contains;
        fits = h.fits;
        from_inside = within;
        to_inside = h.to_inside;
      },
      λ t moves_n k is. moves_n k (goes k is),
    ))
    (λ same.
    let goes : Passes s u n.width (source n) (source n) = λ k is.
    contains-beside site frame s u m.width to framed takes within c.keeps n.width (source n) k (b.apart same)
    h.from_inside is in (
      record {
        number = h.number;
        contains = goes h.number h.contains;
        fits = h.fits;
        from_inside = h.from_inside;
        to_inside = h.to_inside;
      },
      λ t moves_n k is. moves_n k (goes k is),
    ))) beside holds in
    let first : Keeps (OutsideAll moves) (ApartFromAll (word_of Ebp s) word moves) s u =
    keeps-stricter (OutsidePlace to) (OutsideAll moves) (ApartFromTarget (word_of Ebp s) m.width to)
    (ApartFromAll (word_of Ebp s) word moves) s u (λ k q. cells k q.1 q.2)
    (λ a k l. memory (word_of Ebp s) a k l) c.keeps in (
      u,
      record {
        leads = c.leads;
        framed = c.framed;
        holds = all-into (λ n. Holds frame u (turn n) × ((t : State) → Moves u t (turn n) → Moves s t n))
            (Holds frame u) turn moves (λ n p. p.0) each;
        rest = λ t copied. record {
          moved = all-two (λ n. Holds frame u (turn n) × ((v : State) → Moves u v (turn n) → Moves s v n))
              (λ n. Moves u t (turn n)) (Moves s t) moves (λ n p moves_n. p.1 t moves_n) each
              (all-back (Moves u t) turn moves copied.moved);
          keeps = keeps-rest word moves (map turn moves) s u t base first
              (λ k q. (
                all-into (λ n. OutsidePlace (target n) k) (λ n. OutsidePlace (target n) k) turn moves
                    (λ n p. redirected-has (λ v. OutsidePlace (target v) k) m.from scratch n (λ e. p) (λ e. p)) q.0,
                q.1,
                q.2,
              ))
              (λ b a k l. (
                all-into (λ n. ApartFromTarget b n.width (target n) a k)
                    (λ n. ApartFromTarget b n.width (target n) a k) turn moves
                    (λ n p. redirected-has (λ v. ApartFromTarget b v.width (target v) a k) m.from scratch n (λ e. p)
                    (λ e. p)) l.0,
                l.1,
              )) copied.keeps;
        };
      },
    )
