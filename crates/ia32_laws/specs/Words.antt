-- What CMP, SHL, SAR, SHR, CDQ with IDIV, DIV, and MOVSX make of words, as the ops of a graph mean it of numbers (Intel
-- manual, volume 2, the operation of each instruction).
use Rattle.std.specs.Prelude.{◌≡◌, ◌+◌, ◌*◌, ◌%◌, ◌^◌, ◌<◌, ℕ, ℤ, pos, ◌*ℤ◌, true, false, Some, None, FitsSigned}
use Rattle.std.specs.Prelude.{int_div, int_rem}
use Rattle.std.specs.Int.{w8, w16, w32, cast_unsigned, int_wrap}
use Rattle.ia32_insn.specs.declared.insn.AluOp.TheVariants as alu
use Rattle.ia32_insn.specs.declared.insn.ShiftOp.TheVariants as shift
use Rattle.ia32_insn.specs.Arithmetic.{alu_flags, divided, extended16, holds, shift_value, sign_word, signed, signed_divided}
use Rattle.flow_graph.specs.declared.op.Comparison.{Comparison}
use Rattle.flow_graph.specs.declared.op.Order.{Order}
use Rattle.flow_graph.specs.Meaning.{compared, no_quotient, no_unsigned_quotient, ordered, shift_count, shifted_right}
use Rattle.flow_graph.specs.Meaning.{shifted_unsigned, unsigned_quotient, unsigned_remainder, zero_extended}
use Rattle.ia32_rows.specs.Rows.{cond_of, cond_of_order}

-- after CMP of two words it holds exactly where the signed numbers in them compare so
abbrev pub ComparisonDecides : Type 0
ComparisonDecides =
    (how : Comparison) (m n : ℕ) → m < 2 ^ 32 → n < 2 ^ 32
    → holds (cond_of how) (Some (alu_flags alu.Cmp m n)) ≡ Some (compared how (signed m) (signed n))

-- after CMP of two numbers' words it holds exactly where the numbers without sign are so ordered
abbrev pub OrderDecides : Type 0
OrderDecides =
    (how : Order) (x y : ℤ) → FitsSigned w32 x → FitsSigned w32 y
    → holds (cond_of_order how) (Some (alu_flags alu.Cmp (cast_unsigned w32 x) (cast_unsigned w32 y)))
    ≡ Some (ordered how x y)

-- SHL, SAR and SHR of a number's word by a byte, as the op does it of the numbers
abbrev pub LeftShiftIs : Type 0
LeftShiftIs =
    (x n : ℤ) → FitsSigned w32 x → FitsSigned w8 n
    → cast_unsigned w32 (int_wrap w32 (x *ℤ pos (2 ^ shift_count n)))
    ≡ shift_value shift.Shl (cast_unsigned w32 x) (cast_unsigned w8 n)

abbrev pub RightShiftIs : Type 0
RightShiftIs =
    (x n : ℤ) → FitsSigned w32 x → FitsSigned w8 n
    → cast_unsigned w32 (shifted_right x (shift_count n))
    ≡ shift_value shift.Sar (cast_unsigned w32 x) (cast_unsigned w8 n)

abbrev pub UnsignedShiftIs : Type 0
UnsignedShiftIs =
    (x n : ℤ) → FitsSigned w32 x → FitsSigned w8 n
    → cast_unsigned w32 (shifted_unsigned x (shift_count n))
    ≡ shift_value shift.Shr (cast_unsigned w32 x) (cast_unsigned w8 n)

-- CDQ and IDIV of two numbers' words: no quotient exactly where the op traps, else the op's quotient and remainder
abbrev pub DivisionTraps : Type 0
DivisionTraps =
    (x y : ℤ) → FitsSigned w32 x → FitsSigned w32 y → no_quotient x y ≡ true
    → signed_divided (sign_word (cast_unsigned w32 x) * 2 ^ 32 + cast_unsigned w32 x) (cast_unsigned w32 y) ≡ None

abbrev pub DivisionIs : Type 0
DivisionIs =
    (x y : ℤ) → FitsSigned w32 x → FitsSigned w32 y → no_quotient x y ≡ false
    → signed_divided (sign_word (cast_unsigned w32 x) * 2 ^ 32 + cast_unsigned w32 x) (cast_unsigned w32 y)
    ≡ Some (cast_unsigned w32 (int_div x y), cast_unsigned w32 (int_rem x y))

-- DIV of two numbers' words, with 0 above the first: no quotient exactly where the op traps, else the op's
abbrev pub UnsignedDivisionTraps : Type 0
UnsignedDivisionTraps =
    (x y : ℤ) → FitsSigned w32 x → FitsSigned w32 y → no_unsigned_quotient x y ≡ true
    → divided (0 * 2 ^ 32 + cast_unsigned w32 x) (cast_unsigned w32 y) ≡ None

abbrev pub UnsignedDivisionIs : Type 0
UnsignedDivisionIs =
    (x y : ℤ) → FitsSigned w32 x → FitsSigned w32 y → no_unsigned_quotient x y ≡ false
    → divided (0 * 2 ^ 32 + cast_unsigned w32 x) (cast_unsigned w32 y)
    ≡ Some (cast_unsigned w32 (unsigned_quotient x y), cast_unsigned w32 (unsigned_remainder x y))

-- MOVZX of a number's byte
abbrev pub ZeroExtensionIs : Type 0
ZeroExtensionIs = (n : ℤ) → FitsSigned w8 n → cast_unsigned w32 (zero_extended n) ≡ cast_unsigned w8 n

-- MOVSX of a number's low 16 bits
abbrev pub LowHalfIs : Type 0
LowHalfIs =
    (x : ℤ) → FitsSigned w32 x
    → cast_unsigned w32 (int_wrap w16 x) ≡ extended16 (cast_unsigned w32 x % 2 ^ 16)
