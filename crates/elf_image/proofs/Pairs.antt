-- Lists in which each two elements are related, by a relation that goes both ways.
use Rattle.std.proofs.Common.{◌≡◌, ◌≢◌, ℕ, suc, ◌<◌, ◌⊎◌, inl, inr, List, [], ◌∷◌, length, map, All}
use Rattle.std.proofs.Common.{AllPairs, refl, sym, subst, arith, get_or, Bool, true, false}
use Rattle.std.specs.List.{swap}
use Rattle.std.specs.List.Sorted.{IsPermutation}
use Rattle.std.proofs.lemmas.List.{length-map, get_or-map}
use Rattle.std.proofs.lemmas.Bool.{ltb-true, ltb-false}
use Rattle.std.proofs.lemmas.Bool.Decides.{eqb_tells}
use Rattle.std.proofs.Math.Dec.{ltb}
use Rattle.std.proofs.lemmas.List.Edits.{Swapped, swapped_from_swap, length-swap}
use Rattle.std.proofs.lemmas.List.Sorted.{IsPermutation-keeps}

-- the first is related to all others, and these are to one another
pub pairs-split : {X : Type 0} (R : X → X → Type 0) (x : X) (xs : List X) → AllPairs R (x ∷ xs)
    → All (R x) xs × AllPairs R xs
pairs-split R x xs all = (
  λ k d inside. all 0 (suc k) d (omega arith) (omega arith),
  λ i j d less inside. all (suc i) (suc j) d (omega arith) (omega arith),
)

-- each two at different places are related
abbrev Related : {X : Type 0} → (X → X → Type 0) → List X → Type 0
Related {X} R xs = (i j : ℕ) (d : X) → (i ≡ j → ⊥) → i < length xs → j < length xs → R (get_or xs i d) (get_or xs j d)

-- of two different places, either is the earlier one
related-by : {X : Type 0} (R : X → X → Type 0) → ((x y : X) → R x y → R y x) → (xs : List X) → AllPairs R xs
    → (i j : ℕ) (d : X) (before : Bool) → ltb i j ≡ before → (i ≡ j → ⊥) → i < length xs → j < length xs
    → R (get_or xs i d) (get_or xs j d)
related-by R turned xs all i j d true e other here there = all i j d (ltb-true i j e) there
related-by R turned xs all i j d false e other here there =
    turned (get_or xs j d) (get_or xs i d) (all j i d (omega (arith, ltb-false i j e, other)) here)

-- a relation that goes both ways holds of each two
pairs-related : {X : Type 0} (R : X → X → Type 0) → ((x y : X) → R x y → R y x) → (xs : List X) → AllPairs R xs
    → Related R xs
pairs-related R turned xs all = λ i j d other here there. related-by R turned xs all i j d _ refl other here there

-- where two elements are exchanged, the one at a place was at another
abbrev CameFrom : {X : Type 0} → (ℕ → X) → (ℕ → X) → ℕ → ℕ → ℕ → ℕ → Type 0
CameFrom f g a b n m = (k : ℕ) × (g m ≡ f k) × (k < n)
    × (((m ≡ a) × (k ≡ b)) ⊎ (((m ≡ b) × (k ≡ a)) ⊎ ((m ≢ a) × (m ≢ b) × (k ≡ m))))

came-from : {X : Type 0} (f g : ℕ → X) (a b n m : ℕ) → Swapped f g a b → a < n → b < n → m < n → CameFrom f g a b n m
came-from f g a b n m swapped first second here =
    elim (eqb_tells m a) [
      | inl w ↦ (b, subst (λ (k : ℕ). g k ≡ f b) (sym w.1) swapped.0, second, inl (w.1, refl))
      | inr v ↦ elim (eqb_tells m b) [
        | inl w ↦ (a, subst (λ (k : ℕ). g k ≡ f a) (sym w.1) swapped.1, first, inr (inl (w.1, refl)))
        | inr w ↦ (m, swapped.2 m v.1 w.1, here, inr (inr (v.1, w.1, refl)))
      ]
    ]

-- elements at different places were at different places
apart : {a b : ℕ} (i j k l : ℕ) → ((i ≡ a) × (k ≡ b)) ⊎ (((i ≡ b) × (k ≡ a)) ⊎ ((i ≢ a) × (i ≢ b) × (k ≡ i)))
    → ((j ≡ a) × (l ≡ b)) ⊎ (((j ≡ b) × (l ≡ a)) ⊎ ((j ≢ a) × (j ≢ b) × (l ≡ j))) → k ≡ l → i ≡ j
apart i j k l from to same = omega (arith, from, to, same)

-- an exchange of two elements leaves each two related
related-swap : {X : Type 0} (R : X → X → Type 0) (xs : List X) (a b : ℕ) → a < length xs → b < length xs → Related R xs
    → Related R (swap xs a b)
related-swap {X} R xs a b first second related = λ i j d other here there.
    let long = length-swap xs a b in
    let swapped = swapped_from_swap xs (swap xs a b) a b d first second refl in
    let from = came-from (λ k. get_or xs k d) (λ k. get_or (swap xs a b) k d) a b (length xs) i swapped first second
    (omega (arith, here, long)) in
    let to = came-from (λ k. get_or xs k d) (λ k. get_or (swap xs a b) k d) a b (length xs) j swapped first second
    (omega (arith, there, long)) in
    let Left : X → Type 0 = λ x. R x (get_or (swap xs a b) j d) in
    let Right : X → Type 0 = λ y. R (get_or xs from.0 d) y in
    subst Left (sym from.1) (subst Right (sym to.1)
    (related from.0 to.0 d (λ same. other (apart i j from.0 to.0 from.3 to.3 same)) from.2 to.2))

-- a relation that goes both ways holds of each two in any order
pub pairs-permuted : {X : Type 0} (R : X → X → Type 0) → ((x y : X) → R x y → R y x) → (xs ys : List X)
    → IsPermutation xs ys → AllPairs R xs → AllPairs R ys
pairs-permuted R turned xs ys moved all =
    let related = IsPermutation-keeps xs (Related R) (pairs-related R turned xs all)
    (λ l a b first second each. related-swap R l a b first second each) ys moved in
    λ i j d less inside. related i j d (λ same. omega (arith, less, same)) (omega (arith, less, inside)) inside

-- the same of what is made of the elements
pub pairs-map : {X Y : Type 0} (R : Y → Y → Type 0) (f : X → Y) (xs : List X) → AllPairs (λ x y. R (f x) (f y)) xs
    → AllPairs R (map f xs)
pairs-map R f [] all = λ i j d less inside. absurd (omega (arith, inside))
pairs-map {X} {Y} R f (x ∷ xs) all = λ i j d less inside.
    let long = length-map (x ∷ xs) f in
    let there : j < length (x ∷ xs) = omega (arith, inside, long) in
    let here : i < length (x ∷ xs) = omega (arith, less, there) in
    let at-i = get_or-map f (x ∷ xs) i x d here in
    let at-j = get_or-map f (x ∷ xs) j x d there in
    let Left : Y → Type 0 = λ y. R y (get_or (map f (x ∷ xs)) j d) in
    let Right : Y → Type 0 = λ y. R (f (get_or (x ∷ xs) i x)) y in
    subst Left (sym at-i) (subst Right (sym at-j) (all i j x less there))

pub pairs-unmap : {X Y : Type 0} (R : Y → Y → Type 0) (f : X → Y) (xs : List X) → AllPairs R (map f xs)
    → AllPairs (λ x y. R (f x) (f y)) xs
pairs-unmap {X} {Y} R f xs all = λ i j d less inside.
    let long = length-map xs f in
    let here : i < length xs = omega (arith, less, inside) in
    let at-i = get_or-map f xs i d (f d) here in
    let at-j = get_or-map f xs j d (f d) inside in
    let Left : Y → Type 0 = λ y. R y (f (get_or xs j d)) in
    let Right : Y → Type 0 = λ y. R (get_or (map f xs) i (f d)) y in
    subst Left at-i (subst Right at-j (all i j (f d) less (omega (arith, inside, long))))
