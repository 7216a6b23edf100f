-- What one turn of each loop adds.
use Rattle.std.proofs.Common.{◌≡◌, ◌≤◌, ◌+◌, ◌-◌, ℕ, zero, suc, ℤ, pos, ◌-ℤ◌, List, [], ◌∷◌, ◌++◌}
use Rattle.std.proofs.Common.{Some, drop, ap, ◌∙◌, arith, to_z, of_z}
use Rattle.std.specs.Prelude.{neg_ℤ, slice_get}
use Rattle.std.specs.Int.{w32}
use Rattle.std.specs.List.{range_with_len}
use Rattle.std.proofs.lemmas.Int.{ints, to_z-of_z}
use Rattle.std.proofs.lemmas.Option.{none-some, same_Some}

-- what is left from an element on begins with it
drop-from : {A : Type 0} (xs : List A) (k : ℕ) (x : A) → slice_get xs k ≡ Some x → drop k xs ≡ x ∷ drop (suc k) xs
drop-from [] k x e = absurd (none-some x e)
drop-from (y ∷ xs) zero x e = ap (λ a. a ∷ xs) (same_Some y x e)
drop-from (y ∷ xs) (suc k) x e = drop-from xs k x e

-- the same, with the next number as a sum
pub drop-here : {A : Type 0} (xs : List A) (k : ℕ) (x : A) → slice_get xs k ≡ Some x → drop k xs ≡ x ∷ drop (k + 1) xs
drop-here xs k x e =
    let one : suc k ≡ k + 1 = omega arith in drop-from xs k x e ∙ ap (λ n. x ∷ drop n xs) one

-- ---- offsets

-- the offset from EBP of what is so far below it
abbrev pub offset_of : ℕ → ℤ
offset_of below = neg_ℤ (pos below)

-- the offset of an array as it is computed in 32 bits, from its header's place
pub array-computed : (header : ℕ) (z : ℤ) → 4 ≤ header → header ≤ 0x4000 → z ≡ pos header
    → to_z w32 (of_z w32 (pos 4 -ℤ z)) ≡ offset_of (header - 4)
array-computed header z low high e =
    ap (λ (x : ℤ). to_z w32 (of_z w32 (pos 4 -ℤ x))) e
    ∙ to_z-of_z w32 (pos 4 -ℤ pos header) (omega (arith, ints)) ∙ omega (arith, ints)

-- ---- lists

-- one number more behind those from one on
pub numbers-more : (a n : ℕ) → range_with_len a n ++ (a + n) ∷ [] ≡ range_with_len a (suc n)
numbers-more a zero = let e : a + 0 ≡ a = omega arith in ap (λ (k : ℕ). k ∷ []) e
numbers-more a (suc n) =
    let e : a + suc n ≡ a + 1 + n = omega arith in
    ap (λ (xs : List ℕ). a ∷ xs) (ap (λ (k : ℕ). range_with_len (a + 1) n ++ k ∷ []) e ∙ numbers-more (a + 1) n)
