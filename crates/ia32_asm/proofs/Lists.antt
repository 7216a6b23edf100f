-- Elements of lists by their places.
use Rattle.std.specs.Prelude.{◌≡◌, ◌⊎◌, ◌<◌, ℕ, zero, suc, List, [], ◌∷◌, ◌++◌, length, take, slice_get, Some}
use Rattle.std.proofs.Common.{refl, arith, inl, inr}

-- an element of a list with one more at its end is one of the list, or that one
pub slice_get-push : {X : Type 0} (xs : List X) (x y : X) (j : ℕ) → slice_get (xs ++ x ∷ []) j ≡ Some y
    → (slice_get xs j ≡ Some y) ⊎ ((j ≡ length xs) × (x ≡ y))
slice_get-push [] x y zero e = inr (refl, (cc))
slice_get-push [] x y (suc j) e = absurd (cc)
slice_get-push (z ∷ xs) x y zero e = inl e
slice_get-push (z ∷ xs) x y (suc j) e =
    elim (slice_get-push xs x y j e) [ inl p ↦ inl p | inr p ↦ inr (omega (arith, p.0), p.1) ]

-- an element of the first k is one of the list, before place k
pub slice_get-taken : {X : Type 0} (k : ℕ) (xs : List X) (y : X) (j : ℕ) → slice_get (take k xs) j ≡ Some y
    → (slice_get xs j ≡ Some y) × (j < k)
slice_get-taken zero xs y j e = absurd (cc)
slice_get-taken (suc k) [] y j e = absurd (cc)
slice_get-taken (suc k) (x ∷ xs) y zero e = (e, omega arith)
slice_get-taken (suc k) (x ∷ xs) y (suc j) e = let h = slice_get-taken k xs y j e in (h.0, omega (arith, h.1))
