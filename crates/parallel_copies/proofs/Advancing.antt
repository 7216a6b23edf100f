-- Each step of the copies, with what waits after it.
use Rattle.std.proofs.Common.{◌≡◌, ◌≢◌, ℕ, ◌+◌, ◌<◌, ◌≤◌, Bool, true, false, List, [], ◌∷◌, ◌++◌, Some, length, map, refl}
use Rattle.std.proofs.Common.{sym, ap, subst, ◌∙◌, inl, inr, arith}
use Rattle.std.specs.Prelude.{⊤, ◌⊎◌, ◌||◌, not, slice_get, remove, if◌then◌else◌}
use Rattle.std.specs.List.{AllByRecursion, list_all, list_any}
use Rattle.std.proofs.lemmas.List.{append-nil}
use Rattle.pcc_base.specs.declared.run.Width.{Width}
use Rattle.pcc_base.specs.declared.run.Width.TheVariants.{One, Two}
use Rattle.ia32_insn.specs.Places.{Place}
use Rattle.ia32_insn.specs.declared.insn.Insn.{Insn}
use Rattle.ia32_rows.specs.Laws.{ArePlacesApart}
use Rattle.ia32_emit.specs.declared.locations.Location.{Location}
use Rattle.ia32_emit.specs.Locations.{place_of}
use Rattle.parallel_copies.specs.declared.moves.Move.{Move}
use Rattle.parallel_copies.specs.Overlap.{overlap, is_same, is_general}
use Rattle.parallel_copies.specs.Copies.{ApartFromAll, ApartFromTarget, AreBeside, IsPlaceFor, source, target}
use Rattle.parallel_copies.specs.Steps.{Advances, AreWaiting, IsScratch, IsWaiting, NotSlots, copy_insn, is_exchangeable}
use Rattle.parallel_copies.specs.Steps.{is_free, is_savable, is_taken, is_whole, lets, redirected, swap_insn, weight}
use Rattle.parallel_copies.specs.Steps.{weight_of}
use Rattle.parallel_copies.proofs.Lists.{all-map, all-two, all-into, all-at, all-pairs, all-removed, all-pass, some-passes}
use Rattle.parallel_copies.proofs.Lists.{none-passes}
use Rattle.parallel_copies.proofs.Apart.{apart-flip, apart-from, apart-to, one-place, not-apart}
use Rattle.parallel_copies.proofs.Beside.{CanRedirect, all-redirected, beside-at, beside-removed, beside-or_same}
use Rattle.parallel_copies.proofs.Beside.{redirected-has, weight-one, weight-redirected, weight-removed, weight-saved}
use Rattle.parallel_copies.proofs.Single.{CanExchange, CanTake}
use Rattle.parallel_copies.proofs.PlaceKinds.{IsSource, can-exchange, four-parts, and-parts, general-not_slots, general-two}
use Rattle.parallel_copies.proofs.PlaceKinds.{not-slots, not-true, not_slots-general, one-width, or-second, other-place}
use Rattle.parallel_copies.proofs.PlaceKinds.{same-self, scratch-cells, scratch-inside, scratch-light, scratch-memory}
use Rattle.parallel_copies.proofs.PlaceKinds.{scratch-slots, scratch-takes, weight-swapped}
use Rattle.parallel_copies.proofs.Keeping.{can-take}
use Rattle.parallel_copies.proofs.SpelledCopies.{copy-spelled, copy-straight, place-short, swap-spelled, swap-straight}
use Rattle.parallel_copies.proofs.Reaching.{IsBesideSave, IsBesideSwap, copy-reaches, idle-reaches, save-reaches}
use Rattle.parallel_copies.proofs.Reaching.{swap-reaches}

-- one move less
waiting-removed : (word : ℕ) (moves : List Move) (i : ℕ) (m : Move) → AreWaiting word moves → slice_get moves i ≡ Some m
    → AreWaiting word (remove moves i)
waiting-removed word moves i m waits there =
    record {
      short = waits.short;
      each = all-removed (IsWaiting word) moves i m there waits.each;
      beside = beside-removed moves i m there waits.beside;
    }

-- ---- a copy

pub copy-advances : (word : ℕ) (moves : List Move) (i : ℕ) (m : Move) (before : List Insn) → AreWaiting word moves
    → slice_get moves i ≡ Some m → is_free m moves ≡ true → is_same (source m) (target m) ≡ false
    → Advances word moves (remove moves i) before (before ++ copy_insn (source m) (target m) ∷ [])
copy-advances word moves i m before waits there free other =
    let less = weight-removed moves i m there in
    let rest : List Move = remove moves i in
    let mine = all-at (IsWaiting word) moves i m there waits.each in
    let lets_all = all-pass (lets m) moves
    (or-second (is_same (source m) (target m)) (list_all (lets m) moves) free other) in
    record {
      added = copy_insn (source m) (target m) ∷ [];
      joined = refl;
      room = less;
      lighter = omega arith;
      waiting = waiting-removed word moves i m waits there;
      straight = (
        copy-straight word m.width (source m) (target m) mine.from_fits
            (can-take word m.width (target m) mine.to_fits) mine.slots,
        tt,
      );
      spelled = (
        copy-spelled (source m) (target m) (place-short word m.width (source m) waits.short mine.from_fits)
            (place-short word m.width (target m) waits.short (inl mine.to_fits)),
        tt,
      );
      reaches = copy-reaches word moves i m waits there
          (all-two (λ n. lets m n ≡ true) (AreBeside m) (λ n. ArePlacesApart (source n) (target m)) rest
          (λ n e b. apart-from (source n) (target m)
          (not-true (overlap (source n) (target m))
          (or-second (overlap (target n) (target m)) (not (overlap (source n) (target m))) e
          (apart-to (target n) (target m) (apart-flip (target m) (target n) b.targets)))))
          (all-removed (λ n. lets m n ≡ true) moves i m there lets_all) (beside-at moves i m there waits.beside));
    }

pub idle-advances : (word : ℕ) (moves : List Move) (i : ℕ) (m : Move) (before : List Insn) → AreWaiting word moves
    → slice_get moves i ≡ Some m → is_same (source m) (target m) ≡ true
    → Advances word moves (remove moves i) before before
idle-advances word moves i m before waits there same =
    let less = weight-removed moves i m there in
    record {
      added = [];
      joined = sym (append-nil before);
      room = omega arith;
      lighter = omega arith;
      waiting = waiting-removed word moves i m waits there;
      straight = tt;
      spelled = tt;
      reaches = idle-reaches word moves i m waits there (one-place (source m) (target m) same);
    }

-- ---- an exchange

pub swap-advances : (word : ℕ) (moves : List Move) (i : ℕ) (m : Move) (before : List Insn) → AreWaiting word moves
    → slice_get moves i ≡ Some m → is_exchangeable m moves ≡ true
    → Advances word moves (map (redirected m.to m.from) (remove moves i)) before
    (before ++ swap_insn (source m) (target m) ∷ [])
swap-advances word moves i m before waits there test =
    let rest : List Move = remove moves i in
    let turn : Move → Move = redirected m.to m.from in
    let parts = four-parts (not (is_same (source m) (target m))) (list_any (λ n. is_same (target n) (source m)) moves)
    (list_any (λ n. is_same (source n) (target m)) moves) (list_all (is_whole m) moves) test in
    let to = some-passes (λ n. is_same (target n) (source m)) moves parts.1 in
    let from = some-passes (λ n. is_same (source n) (target m)) moves parts.2 in
    let mine = all-at (IsWaiting word) moves i m there waits.each in
    let first = can-exchange word m.width (source m) (target to.element) mine.from_fits to.holds in
    let second = can-exchange word m.width (target m) (source from.element) (inl mine.to_fits) from.holds in
    let whole = all-removed (λ n. is_whole m n ≡ true) moves i m there (all-pass (is_whole m) moves parts.3) in
    let beside = beside-at moves i m there waits.beside in
    let each = all-removed (IsWaiting word) moves i m there waits.each in
    let besides : AllByRecursion (IsBesideSwap m) rest =
    all-two (λ n. is_whole m n ≡ true) (AreBeside m) (IsBesideSwap m) rest
    (λ n e b. record {
      whole = λ same. apart-from (source n) (target m)
          (not-true (overlap (source n) (target m))
          (or-second (is_same (source n) (target m)) (not (overlap (source n) (target m))) e same));
      beside = b;
    }) whole beside in
    let width : (n : Move) → IsWaiting word n → is_same (source n) (target m) ≡ true → m.width ≡ n.width =
    λ n w same. one-width word m.width n.width (target m) second
    (subst (λ (p : Place). IsSource word n.width p) (one-place (source n) (target m) same) w.from_fits) in
    let waits_new : AllByRecursion (IsWaiting word) (map turn rest) =
    all-into (IsWaiting word) (IsWaiting word) turn rest
    (λ n w. redirected-has (IsWaiting word) m.to m.from n
    (λ same. record {
      from_fits = subst (λ (d : Width). IsSource word d (source m)) (width n w same) mine.from_fits;
      to_fits = w.to_fits;
      slots = not-slots m.width (source m) (target n) first;
    }) (λ same. w)) each in
    let light = weight-redirected m.to m.from rest
    (all-map (IsWaiting word) (λ n. weight_of (turn n) ≤ weight_of n) rest
    (λ n w. redirected-has (λ v. weight_of v ≤ weight_of n) m.to m.from n
    (λ same. subst (λ (p : Place). weight_of (record n { from = m.from }) ≤ (if is_general p then 2 else 1))
    (sym (one-place (source n) (target m) same))
    (weight-swapped word m.width (source m) (target m) first second mine.to_fits)) (λ same. omega arith)) each) in
    let less = weight-removed moves i m there in
    record {
      added = swap_insn (source m) (target m) ∷ [];
      joined = refl;
      room = omega arith;
      lighter = omega arith;
      straight = (swap-straight m.width (source m) (target m) first second, tt);
      spelled = (swap-spelled (source m) (target m), tt);
      waiting = record {
        short = waits.short;
        each = waits_new;
        beside = all-redirected m.to m.from rest
            (all-map (AreBeside m) (CanRedirect m.to m.from) rest
            (λ n b. record {
              apart = λ same. apart-flip (source m) (source n) b.sources;
              slots = b.from_to;
            }) beside) (beside-removed moves i m there waits.beside);
      };
      reaches = swap-reaches word moves i m to.index to.element waits there to.there
          (one-place (target to.element) (source m) to.holds) first second
          (other-place (source m) (target m) (not-true (is_same (source m) (target m)) parts.0)) besides waits_new;
    }

-- ---- a word to scratch

pub save-advances : (word : ℕ) (moves : List Move) (i : ℕ) (m : Move) (scratch : Location) (before : List Insn)
    → AreWaiting word moves → slice_get moves i ≡ Some m → is_savable m ≡ true → IsScratch word Two (place_of scratch)
    → is_taken (place_of scratch) moves ≡ false
    → Advances word moves (map (redirected m.from scratch) moves) before
    (before ++ copy_insn (source m) (place_of scratch) ∷ [])
save-advances word moves i m scratch before waits there test is not_taken =
    let to : Place = place_of scratch in
    let turn : Move → Move = redirected m.from scratch in
    let parts = and-parts (is_general (source m)) (is_general (target m)) test in
    let mine = all-at (IsWaiting word) moves i m there waits.each in
    let two : Two ≡ m.width = general-two word m.width (source m) parts.0 mine.from_fits in
    let free : AllByRecursion (λ n. overlap (source n) to ≡ false) moves =
    none-passes (λ n. overlap (source n) to) moves not_taken in
    let both = beside-or_same moves i m there waits.beside in
    let width : (n : Move) → IsWaiting word n → is_same (source n) (source m) ≡ true → Two ≡ n.width =
    λ n w same. general-two word n.width (source n)
    (subst (λ (p : Place). is_general p ≡ true) (sym (one-place (source n) (source m) same)) parts.0) w.from_fits in
    let mine_to : (n : Move) → (m ≡ n) ⊎ AreBeside m n → is_same (source n) (source m) ≡ true
    → is_general (target n) ≡ true =
    λ n either same. elim either [
      | inl e ↦ subst (λ (v : Move). is_general (target v) ≡ true) e parts.1
      | inr b ↦ absurd (not-apart (source n) (source m) same (apart-flip (source m) (source n) b.sources))
    ] in
    let each : AllByRecursion (λ n. IsWaiting word n × ((m ≡ n) ⊎ AreBeside m n)) moves =
    all-pairs (IsWaiting word) (λ n. (m ≡ n) ⊎ AreBeside m n) moves waits.each both in
    let light : weight_of (record m { from = scratch }) ≡ 1 = rw (scratch-light word to is) refl in
    let saved : 1 + weight_of (turn m) ≤ weight_of m =
    redirected-has (λ v. 1 + weight_of v ≤ weight_of m) m.from scratch m
    (λ same. let heavy : weight_of m ≡ 2 = rw parts.0 refl in omega (arith, light, heavy))
    (λ same. let self = same-self (source m) parts.0 in absurd (clash (is_same (source m) (source m)) self same)) in
    let less = weight-saved m.from scratch moves i m there saved
    (all-map (IsWaiting word) (λ n. weight_of (turn n) ≤ weight_of n) moves
    (λ n w. redirected-has (λ v. weight_of v ≤ weight_of n) m.from scratch n
    (λ same. let one : weight_of (record n { from = scratch }) ≡ 1 = rw (scratch-light word to is) refl in
    let least = weight-one n in omega (arith, one, least.0))
    (λ same. omega arith)) waits.each) in
    record {
      added = copy_insn (source m) to ∷ [];
      joined = refl;
      room = omega arith;
      lighter = omega arith;
      straight = (
        copy-straight word m.width (source m) to mine.from_fits
            (subst (λ (d : Width). CanTake d to) two (scratch-takes word to is)) (general-not_slots (source m) to parts.0),
        tt,
      );
      spelled = (
        copy-spelled (source m) to (place-short word m.width (source m) waits.short mine.from_fits)
            (place-short word Two to waits.short (inr is)),
        tt,
      );
      waiting = record {
        short = waits.short;
        each = all-into (λ n. IsWaiting word n × ((m ≡ n) ⊎ AreBeside m n)) (IsWaiting word) turn moves
            (λ n w. redirected-has (IsWaiting word) m.from scratch n
            (λ same. record {
              from_fits = inr (subst (λ (d : Width). IsScratch word d to) (width n w.0 same) is);
              to_fits = w.0.to_fits;
              slots = not_slots-general to (target n) (mine_to n w.1 same);
            }) (λ same. w.0)) each;
        beside = all-redirected m.from scratch moves
            (all-two (λ n. overlap (source n) to ≡ false) (IsWaiting word) (CanRedirect m.from scratch) moves
            (λ n e w. record {
              apart = λ same. apart-from (source n) to e;
              slots = scratch-slots word n.width to (target n) is w.to_fits;
            }) free waits.each) waits.beside;
      };
      reaches = save-reaches word moves i m scratch waits there
          (subst (λ (d : Width). CanTake d to) two (scratch-takes word to is))
          (general-not_slots (source m) to parts.0)
          (λ frame low high. scratch-inside word frame to is low high)
          (λ k a b. scratch-cells word to is k a b)
          (λ base a n l. subst (λ (d : Width). ApartFromTarget base d to a n) two
          (scratch-memory word to is base a n l.1))
          (all-two (λ n. overlap (source n) to ≡ false) (IsWaiting word) (IsBesideSave to m) moves
          (λ n e w. record {
            apart = λ same. apart-from (source n) to e;
            width = λ same. sym (width n w same) ∙ two;
          }) free waits.each);
    }
  where
    clash : (b : Bool) → b ≡ true → b ≡ false → ⊥
    clash b e f = cc
