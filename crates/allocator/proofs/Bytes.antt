-- The bytes of frame arrays, one after another.
use Rattle.std.proofs.Common.{ℕ, zero, suc, ◌≡◌, ◌<◌, ◌≤◌, ◌+◌, List, [], ◌∷◌, take, Some, sym, ap}
use Rattle.std.proofs.Common.{arith, ◌∙◌}
use Rattle.std.specs.Prelude.{slice_get}
use Rattle.std.proofs.lemmas.Option.{none-some, same_Some}
use Rattle.flow_graph.specs.Sizes.{array_bytes}
use Rattle.allocator.specs.PointMaps.{bytes_of_arrays}

first-sum : (m n : ℕ) → m ≡ n → m + 0 ≡ 0 + n
first-sum m n e = omega arith

first-most : (m n k : ℕ) → m ≡ n → 0 + n ≤ m + k
first-most m n k e = omega arith

next-sum : (x t s a : ℕ) → t ≡ s + a → x + t ≡ x + s + a
next-sum x t s a e = omega arith

next-most : (x s a b : ℕ) → s + a ≤ b → x + s + a ≤ x + b
next-most x s a b e = omega arith

bytes-step :
    (arrays : List (ℕ × ℕ)) (i : ℕ) (a : ℕ × ℕ) → slice_get arrays i ≡ Some a
    → bytes_of_arrays (take (suc i) arrays) ≡ bytes_of_arrays (take i arrays) + array_bytes a
bytes-step [] i a e = absurd (none-some a e)
bytes-step (x ∷ arrays) zero a e = first-sum (array_bytes x) (array_bytes a) (ap array_bytes (same_Some x a e))
bytes-step (x ∷ arrays) (suc i) a e =
    next-sum (array_bytes x) (bytes_of_arrays (take (suc i) arrays)) (bytes_of_arrays (take i arrays)) (array_bytes a)
    (bytes-step arrays i a e)

bytes-most :
    (arrays : List (ℕ × ℕ)) (i : ℕ) (a : ℕ × ℕ) → slice_get arrays i ≡ Some a
    → bytes_of_arrays (take i arrays) + array_bytes a ≤ bytes_of_arrays arrays
bytes-most [] i a e = absurd (none-some a e)
bytes-most (x ∷ arrays) zero a e =
    first-most (array_bytes x) (array_bytes a) (bytes_of_arrays arrays) (ap array_bytes (same_Some x a e))
bytes-most (x ∷ arrays) (suc i) a e =
    next-most (array_bytes x) (bytes_of_arrays (take i arrays)) (array_bytes a) (bytes_of_arrays arrays)
    (bytes-most arrays i a e)

fit-by : (bytes r s t all : ℕ) → bytes ≡ s → r ≡ t → s + t ≤ all → all < 0x80000000 → bytes + r < 0x1_0000_0000
fit-by bytes r s t all e f h small = omega arith

pub bytes-fit :
    (arrays : List (ℕ × ℕ)) (i : ℕ) (a : ℕ × ℕ) (bytes r : ℕ) → slice_get arrays i ≡ Some a
    → bytes ≡ bytes_of_arrays (take i arrays) → r ≡ array_bytes a → bytes_of_arrays arrays < 0x80000000
    → bytes + r < 0x1_0000_0000
bytes-fit arrays i a bytes r e far is small =
    fit-by bytes r (bytes_of_arrays (take i arrays)) (array_bytes a) (bytes_of_arrays arrays) far is
    (bytes-most arrays i a e) small

suc-is : (i : ℕ) → suc i ≡ i + 1
suc-is i = omega arith

pub bytes-next :
    (arrays : List (ℕ × ℕ)) (i : ℕ) (a : ℕ × ℕ) (bytes r : ℕ) → slice_get arrays i ≡ Some a
    → bytes ≡ bytes_of_arrays (take i arrays) → r ≡ array_bytes a
    → bytes + r ≡ bytes_of_arrays (take (i + 1) arrays)
bytes-next arrays i a bytes r e far is =
    ap (λ (n : ℕ). n + r) far
    ∙ (ap (λ (n : ℕ). bytes_of_arrays (take i arrays) + n) is
    ∙ (sym (bytes-step arrays i a e) ∙ ap (λ (n : ℕ). bytes_of_arrays (take n arrays)) (suc-is i)))
