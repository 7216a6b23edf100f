-- Pieces of lists: the elements from a place on, so many of them.
use Rattle.std.proofs.Common.{◌≡◌, ◌∙◌, ℕ, zero, suc, ◌+◌, ◌<◌, ◌≤◌, List, [], ◌∷◌, length, map, take, drop, refl}
use Rattle.std.proofs.Common.{sym, ap, arith}
use Rattle.std.specs.Prelude.{◌-◌, slice_set, slice_index_or}
use Rattle.std.proofs.lemmas.List.{take-take, drop-take, get_or-take, get_or-drop, get_or_past, length-take, map-set}
use Rattle.std.proofs.lemmas.List.{set_past, length-map}

-- a piece that ends within the first elements is one of these
pub piece-take : {X : Type 0} → (xs : List X) (at count n : ℕ) → at + count ≤ n
    → take count (drop at (take n xs)) ≡ take count (drop at xs)
piece-take xs at count n h =
    let apart : at + (n - at) ≡ n = omega (arith, h) in
    let inner : drop at (take n xs) ≡ take (n - at) (drop at xs) =
    ap (λ m. drop at (take m xs)) (sym apart) ∙ drop-take at (n - at) xs in
    ap (take count) inner ∙ take-take count (n - at) (drop at xs) (omega (arith, h))

-- the first elements, with one of them set
pub take-set : {X : Type 0} → (n : ℕ) (xs : List X) (i : ℕ) (x : X) → take n (slice_set xs i x) ≡ slice_set
    (take n xs) i x
take-set zero xs i x = refl
take-set (suc n) [] i x = refl
take-set (suc n) (y ∷ ys) zero x = refl
take-set (suc n) (y ∷ ys) (suc i) x = ap (λ rest. y ∷ rest) (take-set n ys i x)

-- an element of a piece
pub piece-at : {X : Type 0} → (xs : List X) (at count i : ℕ) (d : X) → i < count
    → slice_index_or (take count (drop at xs)) i d ≡ slice_index_or xs (at + i) d
piece-at xs at count i d h = get_or-take count (drop at xs) i d h ∙ get_or-drop at xs i d

-- nothing stands behind a piece
pub piece-past : {X : Type 0} → (xs : List X) (at count i : ℕ) (d : X) → count ≤ i
    → slice_index_or (take count (drop at xs)) i d ≡ d
piece-past xs at count i d h =
    get_or_past (take count (drop at xs)) i d (omega (arith, h, length-take count (drop at xs)))

-- a value that is set, as what it stands for
pub values_set : {X Y : Type 0} → (f : X → Y) (xs : List X) (i : ℕ) (x : X)
    → map f (slice_set xs i x) ≡ slice_set (map f xs) i (f x)
values_set f xs i x = map-set f xs i x

pub values_past : {X Y : Type 0} → (f : X → Y) (xs : List X) (i : ℕ) (y : Y) → length xs ≤ i
    → slice_set (map f xs) i y ≡ map f xs
values_past f xs i y w = set_past (map f xs) i y (omega (arith, w, length-map xs f))
