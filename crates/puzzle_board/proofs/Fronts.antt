-- A list that is written over from its front on, element by element.
use Rattle.std.proofs.Common.{ℕ, zero, suc, ◌≡◌, ◌<◌, ◌≤◌, ◌+◌, refl, sym, ap, ◌∙◌, List, [], ◌∷◌, ◌++◌, length, take}
use Rattle.std.proofs.Common.{drop, set, get_or, Some, arith, add-one}
use Rattle.std.specs.List.{slice_get}
use Rattle.std.proofs.lemmas.Option.{none-some, same_Some, slice_get-get_or}

-- the front of one list and the rest of another
pub length-front-rest :
    {A : Type 0} (xs ys : List A) (i : ℕ) → length ys ≡ length xs → i ≤ length xs
    → length (take i xs ++ drop i ys) ≡ length xs
length-front-rest xs ys zero same within = same
length-front-rest [] ys (suc i) same within = absurd (omega arith)
length-front-rest (x ∷ xs) [] (suc i) same within = absurd (omega arith)
length-front-rest (x ∷ xs) (y ∷ ys) (suc i) same within =
    ap suc (length-front-rest xs ys i (omega arith) (omega arith))

front-set-suc :
    {A : Type 0} (xs ys : List A) (i : ℕ) (x : A) → length ys ≡ length xs → slice_get xs i ≡ Some x
    → set (take i xs ++ drop i ys) i x ≡ take (suc i) xs ++ drop (suc i) ys
front-set-suc [] ys i x same e = absurd (none-some x e)
front-set-suc (z ∷ xs) [] i x same e = absurd (omega arith)
front-set-suc (z ∷ xs) (y ∷ ys) zero x same e = ap (λ w. w ∷ ys) (sym (same_Some z x e))
front-set-suc (z ∷ xs) (y ∷ ys) (suc i) x same e = ap (λ more. z ∷ more) (front-set-suc xs ys i x (omega arith) e)

-- one element more is written
pub front-set :
    {A : Type 0} (xs ys : List A) (i : ℕ) (x : A) → length ys ≡ length xs → slice_get xs i ≡ Some x
    → set (take i xs ++ drop i ys) i x ≡ take (i + 1) xs ++ drop (i + 1) ys
front-set xs ys i x same e = rw add-one (front-set-suc xs ys i x same e)

-- the same of an element that is read
pub front-step :
    {A : Type 0} (xs ys now new : List A) (i : ℕ) (d : A) → length ys ≡ length xs → i < length xs
    → now ≡ take i xs ++ drop i ys → new ≡ set now i (get_or xs i d) → new ≡ take (i + 1) xs ++ drop (i + 1) ys
front-step xs ys now new i d same within so_far is =
    is ∙ (ap (λ zs. set zs i (get_or xs i d)) so_far
    ∙ front-set xs ys i (get_or xs i d) same (slice_get-get_or xs i d within))

-- all are written
pub front-all :
    {A : Type 0} (xs ys : List A) (i : ℕ) → length ys ≡ length xs → length xs ≤ i → take i xs ++ drop i ys ≡ xs
front-all [] [] zero same all = refl
front-all [] [] (suc i) same all = refl
front-all [] (y ∷ ys) i same all = absurd (omega arith)
front-all (x ∷ xs) ys zero same all = absurd (omega arith)
front-all (x ∷ xs) [] (suc i) same all = absurd (omega arith)
front-all (x ∷ xs) (y ∷ ys) (suc i) same all = ap (λ more. x ∷ more) (front-all xs ys i (omega arith) (omega arith))
