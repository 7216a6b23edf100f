-- What instructions compute on words, which are numbers below 2 ^ 32, and the flags that they set (Intel
-- manual, volume 1, sections 3.4.3 and 7.3, and volume 2, the operation of each instruction).
use Rattle.std.specs.Prelude.{ℕ, ◌+◌, ◌-◌, ◌*◌, ◌/◌, ◌%◌, ◌^◌, ℤ, pos, neg_ℤ, ◌+ℤ◌, ◌-ℤ◌, int_le, int_lt, int_div}
use Rattle.std.specs.Prelude.{int_rem, bit_and, bit_or, bit_xor, Bool, true, false, not, ◌&&◌, ◌||◌, Option, Some, None}
use Rattle.std.specs.Prelude.{nat_le, nat_lt, ◌==◌, if◌then◌else◌}
use Rattle.std.specs.Int.{w8, w16, w32, w64, cast_signed, cast_unsigned, int_shr}
use Rattle.ia32_insn.specs.declared.flags.Flags.{Flags}
use Rattle.ia32_insn.specs.declared.insn.AluOp.{AluOp}
use Rattle.ia32_insn.specs.declared.insn.AluOp.TheVariants as alu
use Rattle.ia32_insn.specs.declared.insn.ShiftOp.{ShiftOp}
use Rattle.ia32_insn.specs.declared.insn.ShiftOp.TheVariants as shift
use Rattle.ia32_insn.specs.declared.insn.Cond.{Cond}
use Rattle.ia32_insn.specs.declared.insn.Cond.TheVariants as cond

-- the word read as a signed number
abbrev pub signed : ℕ → ℤ
signed n = cast_signed w32 n

-- the sign bit is set
abbrev pub is_negative : ℕ → Bool
is_negative n = nat_le (2 ^ 31) n

-- a signed number of 32 bits
abbrev pub fits_signed : ℤ → Bool
fits_signed z = int_le (neg_ℤ (pos (2 ^ 31))) z && int_lt z (pos (2 ^ 31))

-- the sum, and the difference, wrapped at 32 bits
abbrev pub sum : ℕ → ℕ → ℕ
sum a b = (a + b) % 2 ^ 32

abbrev pub difference : ℕ → ℕ → ℕ
difference a b = (a + (2 ^ 32 - b)) % 2 ^ 32

-- ADD, OR, AND, SUB, XOR, and CMP, which subtracts
abbrev pub alu_value : AluOp → ℕ → ℕ → ℕ
alu_value alu.Add a b = sum a b
alu_value alu.Or a b = bit_or a b
alu_value alu.And a b = bit_and a b
alu_value alu.Sub a b = difference a b
alu_value alu.Xor a b = bit_xor a b
alu_value alu.Cmp a b = difference a b

-- CF: a carry out of the highest bit, or a borrow; the logical ones clear it
abbrev pub alu_carry : AluOp → ℕ → ℕ → Bool
alu_carry alu.Add a b = nat_le (2 ^ 32) (a + b)
alu_carry alu.Or a b = false
alu_carry alu.And a b = false
alu_carry alu.Sub a b = nat_lt a b
alu_carry alu.Xor a b = false
alu_carry alu.Cmp a b = nat_lt a b

-- OF: the signed result doesn't fit; the logical ones clear it
abbrev pub alu_overflow : AluOp → ℕ → ℕ → Bool
alu_overflow alu.Add a b = not (fits_signed (signed a +ℤ signed b))
alu_overflow alu.Or a b = false
alu_overflow alu.And a b = false
alu_overflow alu.Sub a b = not (fits_signed (signed a -ℤ signed b))
alu_overflow alu.Xor a b = false
alu_overflow alu.Cmp a b = not (fits_signed (signed a -ℤ signed b))

abbrev pub alu_flags : AluOp → ℕ → ℕ → Flags
alu_flags op a b =
    record {
      cf = alu_carry op a b;
      zf = alu_value op a b == 0;
      sf = is_negative (alu_value op a b);
      of =
          alu_overflow op a b;
    }

-- SHL, SHR and SAR by a count, of which five bits count
abbrev pub shift_value : ShiftOp → ℕ → ℕ → ℕ
shift_value shift.Shl a count = (a * 2 ^ (count % 32)) % 2 ^ 32
shift_value shift.Shr a count = a / 2 ^ (count % 32)
shift_value shift.Sar a count = cast_unsigned w32 (int_shr (signed a) (count % 32))

-- IMUL with two operands: the lowest 32 bits of the product, signed or not
abbrev pub product : ℕ → ℕ → ℕ
product a b = (a * b) % 2 ^ 32

-- NOT and NEG
abbrev pub complement : ℕ → ℕ
complement a = 2 ^ 32 - 1 - a

abbrev pub negation : ℕ → ℕ
negation a = (2 ^ 32 - a) % 2 ^ 32

-- DIV: quotient and remainder of a number of 64 bits, where the divisor isn't 0 and the quotient fits 32 bits
abbrev pub divided : ℕ → ℕ → Option (ℕ × ℕ)
divided dividend divisor =
    if divisor == 0 then None else if nat_lt (dividend / divisor) (2 ^ 32)
    then Some (dividend / divisor, dividend % divisor) else None

-- IDIV: the same of signed numbers; the quotient is cut off towards zero, and the remainder has the dividend's sign
abbrev pub signed_quotient : ℤ → ℤ → Option (ℕ × ℕ)
signed_quotient dividend divisor =
    if fits_signed (int_div dividend divisor)
    then Some (cast_unsigned w32 (int_div dividend divisor), cast_unsigned w32 (int_rem dividend divisor)) else None

abbrev pub signed_divided : ℕ → ℕ → Option (ℕ × ℕ)
signed_divided dividend divisor = if divisor == 0 then None
    else signed_quotient (cast_signed w64 dividend) (signed divisor)

-- CDQ: the sign bit of EAX in every bit
abbrev pub sign_word : ℕ → ℕ
sign_word a = if is_negative a then 2 ^ 32 - 1 else 0

-- MOVSX: a byte, and two bytes, as signed numbers of 32 bits
abbrev pub extended8 : ℕ → ℕ
extended8 n = cast_unsigned w32 (cast_signed w8 n)

abbrev pub extended16 : ℕ → ℕ
extended16 n = cast_unsigned w32 (cast_signed w16 n)

-- the word with other low 16 bits
abbrev pub with_low16 : ℕ → ℕ → ℕ
with_low16 low word = 2 ^ 16 * (word / 2 ^ 16) + low

-- both true, or both false
abbrev pub agree : Bool → Bool → Bool
agree true b = b
agree false b = not b

-- A condition by known flags (Intel manual, volume 1, appendix B). PF isn't kept, so P and NP are never known.
abbrev pub holds_by : Cond → Flags → Option Bool
holds_by cond.O f = Some f.of
holds_by cond.No f = Some (not f.of)
holds_by cond.B f = Some f.cf
holds_by cond.Ae f = Some (not f.cf)
holds_by cond.E f = Some f.zf
holds_by cond.Ne f = Some (not f.zf)
holds_by cond.Be f = Some (f.cf || f.zf)
holds_by cond.A f = Some (not (f.cf || f.zf))
holds_by cond.S f = Some f.sf
holds_by cond.Ns f = Some (not f.sf)
holds_by cond.P f = None
holds_by cond.Np f = None
holds_by cond.L f = Some (not (agree f.sf f.of))
holds_by cond.Ge f = Some (agree f.sf f.of)
holds_by cond.Le f = Some (f.zf || not (agree f.sf f.of))
holds_by cond.G f = Some (not f.zf && agree f.sf f.of)

-- whether the condition holds, where the flags are known
abbrev pub holds : Cond → Option Flags → Option Bool
holds c None = None
holds c (Some flags) = holds_by c flags
