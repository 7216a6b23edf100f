-- Lists side by side, and single elements of lists.
use Rattle.std.proofs.Common.{◌≡◌, ℕ, zero, suc, List, [], ◌∷◌, map, set, Some, refl, sym, subst}
use Rattle.std.specs.List.{All, AllZip, slice_get}
use Rattle.std.proofs.lemmas.List.Elements.{All-head, All-tail}
use Rattle.std.proofs.lemmas.Option.{none-some, same_Some}

-- what holds of each element holds of one
pub All-at : {A : Type 0} (P : A → Type 0) (xs : List A) (k : ℕ) (x : A) → All P xs → slice_get xs k ≡ Some x → P x
All-at P [] k x h e = absurd (none-some x e)
All-at P (y ∷ xs) zero x h e = subst P (same_Some y x e) (All-head P y xs h)
All-at P (y ∷ xs) (suc k) x h e = All-at P xs k x (All-tail P y xs h) e

-- the elements at one place
pub zip-at : {A B : Type 0} (R : A → B → Type 0) (xs : List A) (ys : List B) (k : ℕ) (x : A) (y : B) → AllZip R xs ys
    → slice_get xs k ≡ Some x → slice_get ys k ≡ Some y → R x y
zip-at R [] ys k x y h e f = absurd (none-some x e)
zip-at R (a ∷ xs) [] k x y h e f = absurd h
zip-at R (a ∷ xs) (b ∷ ys) zero x y h e f =
    subst (λ (z : _). R z y) (same_Some a x e) (subst (R a) (same_Some b y f) h.0)
zip-at R (a ∷ xs) (b ∷ ys) (suc k) x y h e f = zip-at R xs ys k x y h.1 e f

-- where the first list has an element, the second has one
pub zip-second : {A B : Type 0} (R : A → B → Type 0) (xs : List A) (ys : List B) (k : ℕ) (x : A) → AllZip R xs ys
    → slice_get xs k ≡ Some x → (y : B) × (slice_get ys k ≡ Some y) × R x y
zip-second R [] ys k x h e = absurd (none-some x e)
zip-second R (a ∷ xs) [] k x h e = absurd h
zip-second R (a ∷ xs) (b ∷ ys) zero x h e = (b, refl, subst (λ (z : _). R z b) (same_Some a x e) h.0)
zip-second R (a ∷ xs) (b ∷ ys) (suc k) x h e = zip-second R xs ys k x h.1 e

-- where the second list has an element, the first has one
pub zip-first : {A B : Type 0} (R : A → B → Type 0) (xs : List A) (ys : List B) (k : ℕ) (y : B) → AllZip R xs ys
    → slice_get ys k ≡ Some y → (x : A) × (slice_get xs k ≡ Some x) × R x y
zip-first R [] [] k y h e = absurd (none-some y e)
zip-first R [] (b ∷ ys) k y h e = absurd h
zip-first R (a ∷ xs) [] k y h e = absurd h
zip-first R (a ∷ xs) (b ∷ ys) zero y h e = (a, refl, subst (R a) (same_Some b y e) h.0)
zip-first R (a ∷ xs) (b ∷ ys) (suc k) y h e = zip-first R xs ys k y h.1 e

-- another element in the second list
pub zip-set : {A B : Type 0} (R : A → B → Type 0) (xs : List A) (ys : List B) (k : ℕ) (x : A) (y : B) → AllZip R xs ys
    → slice_get xs k ≡ Some x → R x y → AllZip R xs (set ys k y)
zip-set R [] ys k x y h e r = absurd (none-some x e)
zip-set R (a ∷ xs) [] k x y h e r = absurd h
zip-set R (a ∷ xs) (b ∷ ys) zero x y h e r = (subst (λ (z : _). R z y) (sym (same_Some a x e)) r, h.1)
zip-set R (a ∷ xs) (b ∷ ys) (suc k) x y h e r = (h.0, zip-set R xs ys k x y h.1 e r)

-- each element beside what a function makes of it
pub zip-map : {A B : Type 0} (R : A → B → Type 0) (f : A → B) (xs : List A) → ((x : A) → R x (f x))
    → AllZip R xs (map f xs)
zip-map R f [] each = tt
zip-map R f (x ∷ xs) each = (each x, zip-map R f xs each)

-- the same, where something is known of each
pub zip-map-all : {A B : Type 0} (P : A → Type 0) (R : A → B → Type 0) (f : A → B) (xs : List A)
    → ((x : A) → P x → R x (f x)) → All P xs → AllZip R xs (map f xs)
zip-map-all P R f [] each h = tt
zip-map-all P R f (x ∷ xs) each h =
    (each x (All-head P x xs h), zip-map-all P R f xs each (All-tail P x xs h))
