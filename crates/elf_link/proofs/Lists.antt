-- What is left of lists, sums over them, and what stands at their places.
use Rattle.std.specs.Prelude.{◌≡◌, ◌<◌, ℕ, zero, suc, ◌+◌, List, [], ◌∷◌, ◌++◌, length, take, drop, slice_get}
use Rattle.std.proofs.Common.{refl, sym, ap, ◌∙◌, arith}
use Rattle.std.proofs.lemmas.List.{append_assoc}

-- one more element moves from what is left of a list to what was made of it
pub moved_on : {X : Type 0} (made made' rest : List X) (x : X) (whole left : List X) → left ≡ x ∷ rest → made'
    ≡ made ++ x ∷ [] → made ++ left ≡ whole → made' ++ rest ≡ whole
moved_on made made' rest x whole left l m e =
    ap (λ xs. xs ++ rest) m ∙ append_assoc made (x ∷ []) rest ∙ ap (λ xs. made ++ xs) (sym l) ∙ e

-- the same for several
pub moved_parts : {X : Type 0} (made made' part rest whole left : List X) → left ≡ part ++ rest → made' ≡ made ++ part
    → made ++ left ≡ whole → made' ++ rest ≡ whole
moved_parts made made' part rest whole left l m e =
    ap (λ xs. xs ++ rest) m ∙ append_assoc made part rest ∙ ap (λ xs. made ++ xs) (sym l) ∙ e

-- a place in the first of two lists
pub get_front : {X : Type 0} (xs ys : List X) (i : ℕ) → i < length xs → slice_get (xs ++ ys) i ≡ slice_get xs i
get_front [] ys i h = absurd (omega (arith, h))
get_front (x ∷ xs) ys zero h = refl
get_front (x ∷ xs) ys (suc i) h = get_front xs ys i (omega (arith, h))

-- and one in the second
pub get_behind : {X : Type 0} (xs ys : List X) (i j : ℕ) → j ≡ length xs + i → slice_get (xs ++ ys) j ≡ slice_get ys i
get_behind [] ys i j e = let same : j ≡ i = omega (arith, e) in ap (slice_get ys) same
get_behind (x ∷ xs) ys i zero e = absurd (omega (arith, e))
get_behind (x ∷ xs) ys i (suc j) e = get_behind xs ys i j (omega (arith, e))

-- a place among the first ones
pub get_taken : {X : Type 0} (n : ℕ) (xs : List X) (i : ℕ) → i < n → slice_get (take n xs) i ≡ slice_get xs i
get_taken zero xs i h = absurd (omega (arith, h))
get_taken (suc n) [] i h = refl
get_taken (suc n) (x ∷ xs) zero h = refl
get_taken (suc n) (x ∷ xs) (suc i) h = get_taken n xs i (omega (arith, h))

-- and one behind them
pub get_left : {X : Type 0} (n : ℕ) (xs : List X) (i j : ℕ) → j ≡ n + i → slice_get (drop n xs) i ≡ slice_get xs j
get_left zero xs i j e = let same : i ≡ j = omega (arith, e) in ap (slice_get xs) same
get_left (suc n) [] i j e = refl
get_left (suc n) (x ∷ xs) i zero e = absurd (omega (arith, e))
get_left (suc n) (x ∷ xs) i (suc j) e = get_left n xs i j (omega (arith, e))
