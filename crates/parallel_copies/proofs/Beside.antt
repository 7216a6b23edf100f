-- Moves beside one another, and moves that come from another place.
use Rattle.std.proofs.Common.{◌≡◌, ℕ, zero, suc, ◌+◌, ◌<◌, ◌≤◌, Bool, true, false, List, [], ◌∷◌, Some, map, refl, sym}
use Rattle.std.proofs.Common.{subst, ◌∙◌, inl, inr, arith}
use Rattle.std.specs.Prelude.{◌⊎◌, slice_get, remove, if◌then◌else◌}
use Rattle.std.specs.List.{AllByRecursion}
use Rattle.ia32_insn.specs.Places.{Place}
use Rattle.ia32_rows.specs.Laws.{ArePlacesApart}
use Rattle.ia32_emit.specs.declared.locations.Location.{Location}
use Rattle.ia32_emit.specs.Locations.{place_of}
use Rattle.parallel_copies.specs.declared.moves.Move.{Move}
use Rattle.parallel_copies.specs.Overlap.{is_same, is_general}
use Rattle.parallel_copies.specs.Copies.{AreBeside, AreAllBeside, AreSlotsApart, source, target}
use Rattle.parallel_copies.specs.Steps.{redirected, weight, weight_of}
use Rattle.parallel_copies.proofs.Lists.{all-map, all-two, all-into, all-at, all-removed, all-restored}
use Rattle.parallel_copies.proofs.Apart.{apart-flip, beside-flip, not-apart, one-place, slots-flip}

-- ---- one of them

pub beside-at : (xs : List Move) (i : ℕ) (m : Move) → slice_get xs i ≡ Some m → AreAllBeside xs
    → AllByRecursion (AreBeside m) (remove xs i)
beside-at [] i m e h = cc
beside-at (y ∷ ys) zero m e h =
    let same : y ≡ m = cc in subst (λ (z : Move). AllByRecursion (AreBeside z) ys) same h.0
beside-at (y ∷ ys) (suc i) m e h =
    (beside-flip y m (all-at (AreBeside y) ys i m e h.0), beside-at ys i m e h.1)

pub beside-removed : (xs : List Move) (i : ℕ) (m : Move) → slice_get xs i ≡ Some m → AreAllBeside xs
    → AreAllBeside (remove xs i)
beside-removed [] i m e h = cc
beside-removed (y ∷ ys) zero m e h = h.1
beside-removed (y ∷ ys) (suc i) m e h = (all-removed (AreBeside y) ys i m e h.0, beside-removed ys i m e h.1)

-- each is that one or beside it
pub beside-or_same : (xs : List Move) (i : ℕ) (m : Move) → slice_get xs i ≡ Some m → AreAllBeside xs
    → AllByRecursion (λ n. (m ≡ n) ⊎ AreBeside m n) xs
beside-or_same xs i m e h =
    all-restored (λ n. (m ≡ n) ⊎ AreBeside m n) xs i m e (inl refl)
    (all-map (AreBeside m) (λ n. (m ≡ n) ⊎ AreBeside m n) (remove xs i) (λ n b. inr b) (beside-at xs i m e h))

-- ---- redirected

-- what holds in both cases
pub redirected-has : (P : Move → Type 0) (old new : Location) (m : Move)
    → (is_same (source m) (place_of old) ≡ true → P (record m { from = new }))
    → (is_same (source m) (place_of old) ≡ false → P m) → P (redirected old new m)
redirected-has P old new m yes_case no_case = chosen (is_same (source m) (place_of old)) refl
  where
    chosen : (b : Bool) → is_same (source m) (place_of old) ≡ b → P (if b then record m { from = new } else m)
    chosen true e = yes_case e
    chosen false e = no_case e

-- what a new source asks for beside the others
pub record CanRedirect (old new : Location) (m : Move) : Type 0 where
  pub apart : is_same (source m) (place_of old) ≡ false → ArePlacesApart (source m) (place_of new)
  pub slots : AreSlotsApart (place_of new) (target m)

-- both at once stand in one register
not-both : (old : Place) (p q : Place) → is_same p old ≡ true → is_same q old ≡ true → ArePlacesApart p q → ⊥
not-both old p q e f h =
    let second : q ≡ old = one-place q old f in
    not-apart p q (subst (λ (x : Place). is_same p x ≡ true) (sym second) e) h

pub redirected-beside : (old new : Location) (m n : Move) → CanRedirect old new m → CanRedirect old new n
    → AreBeside m n → AreBeside (redirected old new m) (redirected old new n)
redirected-beside old new m n cm cn h =
    redirected-has (λ x. AreBeside x (redirected old new n)) old new m
    (λ em. redirected-has (λ y. AreBeside (record m { from = new }) y) old new n
    (λ en. absurd (not-both (place_of old) (source m) (source n) em en h.sources))
    (λ en. record {
      sources = apart-flip (source n) (place_of new) (cn.apart en);
      targets = h.targets;
      from_to = cn.slots;
      to_from = h.to_from;
    }))
    (λ em. redirected-has (λ y. AreBeside m y) old new n
    (λ en. record {
      sources = cm.apart em;
      targets = h.targets;
      from_to = h.from_to;
      to_from = slots-flip (place_of new) (target m) cm.slots;
    })
    (λ en. h))

pub all-redirected : (old new : Location) (xs : List Move) → AllByRecursion (CanRedirect old new) xs → AreAllBeside xs
    → AreAllBeside (map (redirected old new) xs)
all-redirected old new [] c h = tt
all-redirected old new (x ∷ xs) c h = (
  all-into (λ y. CanRedirect old new y × AreBeside x y) (AreBeside (redirected old new x)) (redirected old new) xs
      (λ y k. redirected-beside old new x y c.0 k.0 k.1)
      (all-two (CanRedirect old new) (AreBeside x) (λ y. CanRedirect old new y × AreBeside x y) xs (λ y p q. (p, q)) c.1
      h.0),
  all-redirected old new xs c.1 h.1,
)

-- ---- weights

pub weight-one : (m : Move) → (1 ≤ weight_of m) × (weight_of m ≤ 2)
weight-one m = chosen (is_general (source m))
  where
    chosen : (b : Bool) → (1 ≤ (if b then 2 else 1)) × ((if b then 2 else 1) ≤ 2)
    chosen true = (omega arith, omega arith)
    chosen false = (omega arith, omega arith)

weight-at : (xs : List Move) (i : ℕ) (m : Move) → slice_get xs i ≡ Some m
    → weight (remove xs i) + weight_of m ≡ weight xs
weight-at [] i m e = cc
weight-at (y ∷ ys) zero m e =
    let same : weight_of y ≡ weight_of m = cc in omega arith
weight-at (y ∷ ys) (suc i) m e = let rest = weight-at ys i m e in omega arith

-- a move less
pub weight-removed : (xs : List Move) (i : ℕ) (m : Move) → slice_get xs i ≡ Some m → 1 + weight (remove xs i) ≤ weight xs
weight-removed xs i m e =
    let one = weight-one m in
    let all = weight-at xs i m e in
    omega arith

pub weight-redirected : (old new : Location) (xs : List Move)
    → AllByRecursion (λ m. weight_of (redirected old new m) ≤ weight_of m) xs
    → weight (map (redirected old new) xs) ≤ weight xs
weight-redirected old new [] h = omega arith
weight-redirected old new (x ∷ xs) h =
    let rest = weight-redirected old new xs h.1 in
    let first = h.0 in
    omega arith

-- one of them weighs less
pub weight-saved : (old new : Location) (xs : List Move) (i : ℕ) (m : Move) → slice_get xs i ≡ Some m
    → 1 + weight_of (redirected old new m) ≤ weight_of m
    → AllByRecursion (λ x. weight_of (redirected old new x) ≤ weight_of x) xs
    → 1 + weight (map (redirected old new) xs) ≤ weight xs
weight-saved old new [] i m e less h = cc
weight-saved old new (x ∷ xs) zero m e less h =
    let same : x ≡ m = cc in
    let first : 1 + weight_of (redirected old new x) ≤ weight_of x =
    subst (λ (y : Move). 1 + weight_of (redirected old new y) ≤ weight_of y) (sym same) less in
    let rest = weight-redirected old new xs h.1 in
    omega arith
weight-saved old new (x ∷ xs) (suc i) m e less h =
    let rest = weight-saved old new xs i m e less h.1 in
    let first = h.0 in
    omega arith
