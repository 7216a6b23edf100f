-- Results of arithmetic fit their widths.
use Rattle.std.proofs.Common.{◌≡◌, ◌≢◌, ℕ, zero, suc, ◌-◌, ◌*◌, ◌/◌, ◌^◌, ◌<◌, ◌≤◌, false, ℤ, pos, negsuc, neg_ℤ, sym}
use Rattle.std.proofs.Common.{subst, pow_pos, arith}
use Rattle.std.specs.Prelude.{FitsSigned, int_div, int_rem}
use Rattle.std.specs.Int.{w8, w16, w32, cast_signed, cast_unsigned, int_bit_and, int_bit_or, int_bit_xor, int_bit_not}
use Rattle.std.specs.Int.Signed.{mag_rem}
use Rattle.std.proofs.lemmas.Bool.{false≢true}
use Rattle.std.proofs.lemmas.Int.{ints, SFits-int_wrap}
use Rattle.std.proofs.Math.Nat.{div-le_self, div-mul-le_self, mod-lt}
use Rattle.pcc_base.specs.Objects.{FitsBytes}
use Rattle.flow_graph.specs.declared.op.Bits.{Bits}
use Rattle.flow_graph.specs.declared.op.Bits.TheVariants.{Eight, Sixteen, ThirtyTwo}
use Rattle.flow_graph.specs.Meaning.{bytes_of, low_byte, no_quotient, shifted_right, stored}
use Rattle.flow_graph.specs.Meaning.{zero_extended}

-- ---- words

-- the signed reading of any bits fits
pub signed-fits : (n : ℕ) → FitsSigned w32 (cast_signed w32 n)
signed-fits n = grind (arith, ints)

-- a byte fits 32 bits
pub byte-fits : (n : ℕ) → n < 256 → FitsSigned w32 (pos n)
byte-fits n lt = record { sfits = omega arith }

-- 0 fits every width that variables have
pub zero-byte : FitsSigned w8 (pos 0)
zero-byte = record { sfits = omega arith }

pub zero-word : FitsSigned w32 (pos 0)
zero-word = record { sfits = omega arith }

-- a number of 8 or 16 bits has 32
pub byte-word : (n : ℤ) → FitsSigned w8 n → FitsSigned w32 n
byte-word n h = record { sfits = omega (arith, h.sfits) }

pub half-word : (n : ℤ) → FitsSigned w16 n → FitsSigned w32 n
half-word n h = record { sfits = omega (arith, h.sfits) }

-- the low byte is a byte
pub low_byte-below : (n : ℤ) → low_byte n < 256
low_byte-below n = mod-lt (cast_unsigned w32 n) (omega arith)

-- a byte without its sign
pub extended-fits : (n : ℤ) → FitsSigned w32 (zero_extended n)
extended-fits n = byte-fits (low_byte n) (low_byte-below n)

-- ---- bits and shifts

pub and-fits : (x y : ℤ) → FitsSigned w32 (int_bit_and w32 x y)
and-fits x y = signed-fits _

pub or-fits : (x y : ℤ) → FitsSigned w32 (int_bit_or w32 x y)
or-fits x y = signed-fits _

pub xor-fits : (x y : ℤ) → FitsSigned w32 (int_bit_xor w32 x y)
xor-fits x y = signed-fits _

pub not-fits : (x : ℤ) → FitsSigned w32 (int_bit_not w32 x)
not-fits x = signed-fits _

-- a shift to the right goes towards 0 or -1
pub shift-fits : (x : ℤ) (k : ℕ) → FitsSigned w32 x → FitsSigned w32 (shifted_right x k)
shift-fits (pos n) k h = record { sfits = omega (arith, div-le_self n (2 ^ k), h.sfits) }
shift-fits (negsuc n) k h = record { sfits = omega (arith, div-le_self n (2 ^ k), h.sfits) }

-- ---- division

-- the remainder is no further from 0 than the dividend
pub remainder-fits : (x y : ℤ) → FitsSigned w32 x → FitsSigned w32 (int_rem x y)
remainder-fits x y h = record { sfits = omega (arith, mag_rem x y, h.sfits) }

-- the negation of a quotient
negated : (q a : ℕ) → q ≤ suc a → a < 2 ^ 31 → FitsSigned w32 (neg_ℤ (pos q))
negated zero a le lt = zero-word
negated (suc q) a le lt = record { sfits = omega (arith, le, lt) }

-- the least number isn't divided by -1
not-least : (a : ℕ) → no_quotient (negsuc a) (negsuc 0) ≡ false → a ≢ 0x7fffffff
not-least a e least = false≢true (sym (subst (λ (n : ℕ). no_quotient (negsuc n) (negsuc 0) ≡ false) least e))

-- the quotient of two negative numbers
quotient : (a b : ℕ) → a < 2 ^ 31 → no_quotient (negsuc a) (negsuc b) ≡ false → suc a / suc b < 2 ^ 31
quotient a zero lt e =
    let least = not-least a e in
    let whole = div-le_self (suc a) 1 in
    omega (arith, lt, least, whole)
quotient a (suc b) lt e =
    let half = div-mul-le_self (suc a) (suc (suc b)) in
    omega (arith, lt, half)

-- the quotient fits but for the one that is refused
pub quotient-fits : (x y : ℤ) → FitsSigned w32 x → no_quotient x y ≡ false → FitsSigned w32 (int_div x y)
quotient-fits (pos a) (pos b) h e = record { sfits = omega (arith, div-le_self a b, h.sfits) }
quotient-fits (pos a) (negsuc b) h e = negated (a / suc b) a (omega (arith, div-le_self a (suc b))) h.sfits
quotient-fits (negsuc a) (pos b) h e = negated (suc a / b) a (div-le_self (suc a) b) h.sfits
quotient-fits (negsuc a) (negsuc b) h e = record { sfits = quotient a b h.sfits e }

-- ---- elements

-- a number as an element holds it fits the element
pub stored-fits : (bits : Bits) (n : ℤ) → FitsSigned w32 n → FitsBytes (bytes_of bits) (stored bits n)
stored-fits Eight n h = let f = SFits-int_wrap w8 n in (omega (arith, ints), omega (arith, ints))
stored-fits Sixteen n h = let f = SFits-int_wrap w16 n in (omega (arith, ints), omega (arith, ints))
stored-fits ThirtyTwo n h = (omega (arith, ints), omega (arith, ints))

-- an element fits 32 bits
pub element-fits : (bits : Bits) (n : ℤ) → FitsBytes (bytes_of bits) n → FitsSigned w32 n
element-fits Eight n h = grind (arith, ints)
element-fits Sixteen n h = grind (arith, ints)
element-fits ThirtyTwo n h = grind (arith, ints)

-- 0 fits elements of any width
pub zero-element : (width : ℕ) → FitsBytes width (pos 0)
zero-element width =
    let some : 0 < 2 ^ (8 * width - 1) = pow_pos (8 * width - 1) in
    (omega (arith, ints, some), omega (arith, ints, some))
