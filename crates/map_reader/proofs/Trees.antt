-- The last element of a list is changed.
use Rattle.std.proofs.Common.{◌≡◌, ℕ, zero, suc, ◌+◌, List, [], ◌∷◌, length, get_or, map, refl, ap, arith}
use Rattle.std.specs.Prelude.{slice_set}
use Rattle.map_text.specs.Reading.{in_last}

pub last_put : {X Y : Type 0} (make : X → Y) (change : Y → Y) (xs : List X) (i : ℕ) (d x : X) → i + 1 ≡ length xs
    → make x ≡ change (make (get_or xs i d)) → map make (slice_set xs i x) ≡ in_last change (map make xs)
last_put make change [] i d x last is = absurd (omega (arith, last))
last_put {Y = Y} make change (y ∷ []) zero d x last is = ap (λ (z : Y). z ∷ []) is
last_put make change (y ∷ []) (suc i) d x last is = absurd (omega (arith, last))
last_put make change (y ∷ z ∷ xs) zero d x last is = absurd (omega (arith, last))
last_put {Y = Y} make change (y ∷ z ∷ xs) (suc i) d x last is =
    let before : i + 1 ≡ length (z ∷ xs) = omega (arith, last) in
    ap (λ (ys : List Y). make y ∷ ys) (last_put make change (z ∷ xs) i d x before is)

-- there is none
pub none_put : {X Y : Type 0} (make : X → Y) (change : Y → Y) (xs : List X) → length xs ≡ 0
    → map make xs ≡ in_last change (map make xs)
none_put make change [] e = refl
none_put make change (x ∷ xs) e = absurd (omega (arith, e))
