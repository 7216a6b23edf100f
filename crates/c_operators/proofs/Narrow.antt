-- What is left of a number in fewer bits, and of one that is shifted to the left.
use Rattle.std.proofs.Common.{arith, ◌≡◌, refl, sym, ap, ◌∙◌, ℕ, ◌<◌, ◌%◌, ◌^◌, ℤ, pos, negsuc, mod-eq_of_lt}
use Rattle.std.specs.Prelude.{◌*ℤ◌, FitsSigned}
use Rattle.std.specs.Int.{w8, w16, w32, int_wrap, int_shl, cast_signed, cast_unsigned}
use Rattle.std.proofs.lemmas.Int.{to_z-of_z, wrapping_mul-bits, int_wrap-mul_right}
use Rattle.std.proofs.Math.Pow.{pow-lt}
use Rattle.c_tree.specs.Operators.{shift_count}

-- the low 8 and the low 16 bits, read as a signed number
pub low_8 : (n : ℤ) → FitsSigned w32 n → cast_signed w8 (cast_unsigned w32 n % 256) ≡ int_wrap w8 n
unfolding int_wrap
low_8 (pos a) f = refl
low_8 (negsuc a) f = ap (cast_signed w8) (omega (arith, f))

pub low_16 : (n : ℤ) → FitsSigned w32 n → cast_signed w16 (cast_unsigned w32 n % 0x10000) ≡ int_wrap w16 n
unfolding int_wrap
low_16 (pos a) f = refl
low_16 (negsuc a) f = ap (cast_signed w16) (omega (arith, f))

signed_word : (n : ℕ) → n < 0x1_0000_0000 → cast_signed w32 n ≡ int_wrap w32 (pos n)
unfolding int_wrap
signed_word n h = ap (cast_signed w32) (sym (mod-eq_of_lt h))

word_below : (n : ℤ) → FitsSigned w32 n → cast_unsigned w32 n < 0x1_0000_0000
word_below (pos a) f = omega (arith, f)
word_below (negsuc a) f = omega (arith, f)

-- a shift to the left is a product with a power of two
pub shifted_left : (a : ℤ) (k : ℕ) → FitsSigned w32 a → k < 32 → int_shl w32 a k ≡ int_wrap w32 (a *ℤ pos (2 ^ k))
shifted_left a k f h =
    wrapping_mul-bits w32 (cast_unsigned w32 a) (2 ^ k) (word_below a f) (pow-lt h)
    ∙ ap (λ x. int_wrap w32 (x *ℤ cast_signed w32 (2 ^ k))) (to_z-of_z w32 a f)
    ∙ ap (λ x. int_wrap w32 (a *ℤ x)) (signed_word (2 ^ k) (pow-lt h))
    ∙ int_wrap-mul_right w32 a (pos (2 ^ k))

-- the low five bits are the count of a shift
pub same_count : (n : ℤ) → FitsSigned w32 n → cast_unsigned w32 n % 32 ≡ shift_count n
same_count (pos a) f = refl
same_count (negsuc a) f = omega (arith, f)
