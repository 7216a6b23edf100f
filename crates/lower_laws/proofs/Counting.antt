-- The lowest byte of a number is the same count of a shift.
use Rattle.std.proofs.Common.{◌≡◌, ℕ, suc, ◌-◌, ◌%◌, ◌<◌, ℤ, pos, negsuc}
use Rattle.std.proofs.Common.{refl, ap, ◌∙◌, arith}
use Rattle.std.proofs.Math.Nat.{div-add-mod', mod-lt}
use Rattle.std.proofs.lemmas.Int.{SFits-int_wrap, of_z-to_z}
use Rattle.std.specs.Int.{w8, int_rem_euclid, int_wrap, cast_unsigned}
use Rattle.std.specs.Prelude.{FitsSigned, unsigned_abs}
use Rattle.c_tree.specs.Operators.{shift_count}
use Rattle.lower_laws.specs.ExpressionsLaws.{BytesCount}

-- a number of 8 bits counts as its bits do
bits-count : (z : ℤ) → FitsSigned w8 z → shift_count z ≡ cast_unsigned w8 z % 32
bits-count (pos m) f = refl
bits-count (negsuc k) f =
    let small : k < 0x80 = f.sfits in
    let split = div-add-mod' k 32 in
    let split' = div-add-mod' (256 - suc k) 32 in
    let below : k % 32 < 32 = mod-lt k (omega arith) in
    let below' : (256 - suc k) % 32 < 32 = mod-lt (256 - suc k) (omega arith) in
    omega (arith, small, split, split', below, below')

-- the remainder of a number by 256 has its low bits
abbrev byte_of : ℤ → ℕ
byte_of n = unsigned_abs (int_rem_euclid n (pos 256))

byte-small : (n : ℤ) → byte_of n < 256
byte-small (pos a) = mod-lt a (omega arith)
byte-small (negsuc a) = omega arith

byte-same : (n : ℤ) → byte_of n % 32 ≡ shift_count n
byte-same (pos a) =
    let split = div-add-mod' a 256 in
    let split' = div-add-mod' a 32 in
    let split'' = div-add-mod' (a % 256) 32 in
    let below : a % 32 < 32 = mod-lt a (omega arith) in
    omega (arith, split, split', split'', below)
byte-same (negsuc a) =
    let split = div-add-mod' a 256 in
    let below : a % 256 < 256 = mod-lt a (omega arith) in
    omega (arith, split, below)

byte-is : (n : ℤ) → cast_unsigned w8 (int_wrap w8 n) ≡ byte_of n
unfolding int_wrap
byte-is n = of_z-to_z w8 (byte_of n) (byte-small n)

pub bytes-count : BytesCount
bytes-count n =
    bits-count (int_wrap w8 n) (SFits-int_wrap w8 n) ∙ ap (λ (m : ℕ). m % 32) (byte-is n) ∙ byte-same n
