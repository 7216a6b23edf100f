-- What CMP, SHL, SAR, SHR, MOVSX and MOVZX make of words.
use Rattle.std.proofs.Common.{◌≡◌, ℕ, suc, ◌-◌, ◌*◌, ◌/◌, ◌%◌, ◌^◌, ◌<◌, ◌==◌, ℤ, pos, negsuc, ◌*ℤ◌, refl, sym, ap, ◌∙◌, arith}
use Rattle.std.specs.Prelude.{FitsSigned}
use Rattle.std.specs.Int.{w8, w16, w32, cast_signed, cast_unsigned, int_shr, int_wrap}
use Rattle.std.proofs.Math.Nat.{div-le_self, mod-eq_of_lt, mod-lt}
use Rattle.std.proofs.lemmas.Nat.{pow_below}
use Rattle.std.proofs.lemmas.Int.{ints, to_z-of_z, of_z-to_z, int_wrap-mul_right, wrapping_mul-bits}
use Rattle.flow_graph.specs.Meaning.{shift_count, shifted_right}
use Rattle.std.proofs.Common.{Some}
use Rattle.std.proofs.lemmas.Bool.Decides.{nat_tests}
use Rattle.flow_graph.specs.declared.op.Comparison.TheVariants.{Eq, Ne, Lt, Le, Gt, Ge}
use Rattle.flow_graph.specs.declared.op.Order.TheVariants as order
use Rattle.ia32_insn.specs.Arithmetic.{difference}
use Rattle.ia32_laws.specs.Words.{ComparisonDecides, LeftShiftIs, LowHalfIs, OrderDecides, RightShiftIs}
use Rattle.ia32_laws.specs.Words.{UnsignedShiftIs, ZeroExtensionIs}

-- ---- 16 bits

pub low-half-is : LowHalfIs
unfolding int_wrap
low-half-is (pos a) h = refl
low-half-is (negsuc a) h =
    let small = h.sfits in
    let same : 0x10000 - 1 - a % 0x10000 ≡ (0x1_0000_0000 - suc a) % 0x10000 = omega (arith, small) in
    ap (λ (k : ℕ). cast_unsigned w32 (cast_signed w16 k)) same

-- ---- shifts

-- the count modulo 32 is the same in 8 bits
same-count : (n : ℤ) → FitsSigned w8 n → shift_count n ≡ cast_unsigned w8 n % 32
same-count (pos a) h = omega (arith, ints)
same-count (negsuc a) h = omega (arith, ints)

count-below : (n : ℤ) → shift_count n < 32
count-below (pos a) = omega arith
count-below (negsuc a) = omega arith

-- a number without sign, wrapped
wrapped-pos : (k : ℕ) → k < 2 ^ 32 → int_wrap w32 (pos k) ≡ cast_signed w32 k
unfolding int_wrap
wrapped-pos k h = ap (cast_signed w32) (mod-eq_of_lt h)

shifted-left : (x : ℤ) (k : ℕ) → FitsSigned w32 x → k < 2 ^ 32
    → cast_unsigned w32 (int_wrap w32 (x *ℤ pos k)) ≡ cast_unsigned w32 x * k % 2 ^ 32
shifted-left x k f h =
    let m : ℕ = cast_unsigned w32 x in
    let small : m < 2 ^ 32 = omega (arith, ints) in
    ap (cast_unsigned w32) (sym (int_wrap-mul_right w32 x (pos k))
    ∙ ap (λ (z : ℤ). int_wrap w32 (x *ℤ z)) (wrapped-pos k h)
    ∙ ap (λ (z : ℤ). int_wrap w32 (z *ℤ cast_signed w32 k)) (sym (to_z-of_z w32 x f))
    ∙ sym (wrapping_mul-bits w32 m k small h))
    ∙ of_z-to_z w32 (m * k % 2 ^ 32) (mod-lt (m * k) (omega arith))

pub left-shift-is : LeftShiftIs
left-shift-is x n f g =
    shifted-left x (2 ^ shift_count n) f (pow_below (shift_count n) 32 (count-below n))
    ∙ ap (λ (k : ℕ). cast_unsigned w32 x * 2 ^ k % 2 ^ 32) (same-count n g)

-- an arithmetic shift rounds down
same-right : (x : ℤ) (k : ℕ) → int_shr x k ≡ shifted_right x k
same-right (pos a) k = refl
same-right (negsuc a) k = refl

pub right-shift-is : RightShiftIs
right-shift-is x n f g =
    ap (λ (k : ℕ). cast_unsigned w32 (shifted_right x k)) (same-count n g)
    ∙ ap (cast_unsigned w32) (sym (same-right x (cast_unsigned w8 n % 32)))
    ∙ ap (λ (z : ℤ). cast_unsigned w32 (int_shr z (cast_unsigned w8 n % 32))) (sym (to_z-of_z w32 x f))

-- with zero bits
pub unsigned-shift-is : UnsignedShiftIs
unsigned-shift-is x n f g =
    let m : ℕ = cast_unsigned w32 x in
    let small : m < 2 ^ 32 = omega (arith, ints) in
    let less = div-le_self m (2 ^ shift_count n) in
    of_z-to_z w32 (m / 2 ^ shift_count n) (omega (arith, small, less)) ∙ ap (λ (k : ℕ). m / 2 ^ k) (same-count n g)

-- ---- bytes

pub zero-extension-is : ZeroExtensionIs
zero-extension-is (pos a) h = let small = h.sfits in (let e : a % 256 ≡ a = omega (arith, small) in e)
zero-extension-is (negsuc a) h = let small = h.sfits in omega (arith, small)

-- ---- comparisons

-- CMP leaves the carry where the first word is less, and a difference of 0 where they are the same
no-difference : (m n : ℕ) → m < 2 ^ 32 → n < 2 ^ 32 → (difference m n == 0) ≡ (m == n)
no-difference m n h k = grind (arith, nat_tests, h, k)

pub order-decides : OrderDecides
order-decides order.Lt x y f g = refl
order-decides order.Le x y f g = ap Some (grind (arith, ints, nat_tests))
order-decides order.Gt x y f g = ap Some (grind (arith, ints, nat_tests))
order-decides order.Ge x y f g = ap Some (grind (arith, ints, nat_tests))

pub comparison-decides : ComparisonDecides
comparison-decides Eq m n h k = ap Some (grind (arith, ints, nat_tests))
comparison-decides Ne m n h k = ap Some (grind (arith, ints, nat_tests))
comparison-decides Lt m n h k = ap Some (grind (arith, ints, nat_tests))
comparison-decides Le m n h k = ap Some (grind (arith, ints, nat_tests))
comparison-decides Gt m n h k = ap Some (grind (arith, ints, nat_tests))
comparison-decides Ge m n h k = ap Some (grind (arith, ints, nat_tests))
