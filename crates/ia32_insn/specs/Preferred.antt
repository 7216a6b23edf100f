-- The spelling of each instruction that an encoder prefers: no displacement where it is 0 and the base isn't
-- EBP, then 8 bits, then 32; no SIB byte where none is needed, and scale bits 0 where there is no index; a
-- jump with 32 bits of distance, and else the shortest opcode.
use Rattle.std.specs.Prelude.{ℕ, ◌+◌, ◌*◌, ℤ, pos, neg_ℤ, int_le, int_lt, Bool, true, ◌&&◌, not, ◌==◌, List, [], ◌∷◌}
use Rattle.std.specs.Prelude.{◌++◌, Option, Some, None, if◌then◌else◌}
use Rattle.std.specs.Int.{w8, w32, cast_unsigned}
use Rattle.byteorder.specs.Endian.{little_bytes}
use Rattle.ia32_insn.specs.Registers.{number32, number8}
use Rattle.ia32_insn.specs.declared.register_names.Reg32.{Reg32}
use Rattle.ia32_insn.specs.declared.operand.Rm32.TheVariants as rm
use Rattle.ia32_insn.specs.declared.insn.Insn.{Insn}
use Rattle.ia32_insn.specs.declared.insn.Insn.TheVariants as insn
use Rattle.ia32_insn.specs.Spelling.{Operand, InRegister, InMemory, operand32, operand8, alu_number, shift_number}
use Rattle.ia32_insn.specs.Spelling.{cond_number}

-- a signed number in one byte, and in four, the lowest first
abbrev pub byte_bytes : ℤ → List ℕ
byte_bytes z = cast_unsigned w8 z ∷ []

abbrev pub word_bytes : ℤ → List ℕ
word_bytes z = little_bytes 4 (cast_unsigned w32 z)

abbrev pub fits_byte : ℤ → Bool
fits_byte z = int_le (neg_ℤ (pos 128)) z && int_lt z (pos 128)

-- a byte of three fields
abbrev pub fields_byte : ℕ → ℕ → ℕ → ℕ
fields_byte high middle low = 64 * high + 8 * middle + low

-- the number in the place of the base: 5 where there is none
abbrev pub base_number : Option Reg32 → ℕ
base_number None = 5
base_number (Some r) = number32 r

-- which mod goes with a base and a displacement
abbrev pub mod_for : Option Reg32 → ℤ → ℕ
mod_for None z = 0
mod_for (Some r) z = if int_le z (pos 0) && int_le (pos 0) z && not (number32 r == 5) then 0 else if fits_byte z then 1
    else 2

-- and which bytes of displacement
abbrev pub displacement_for : Option Reg32 → ℤ → List ℕ
displacement_for None z = word_bytes z
displacement_for (Some r) z = if mod_for (Some r) z == 0 then [] else if mod_for (Some r) z == 1 then byte_bytes z
    else word_bytes z

-- the scale bits of a factor of 1, 2, 4 or 8
abbrev pub scale_bits : ℕ → ℕ
scale_bits factor = if factor == 8 then 3 else if factor == 4 then 2 else if factor == 2 then 1 else 0

-- the SIB byte of an index and a base: index number 4 where there is none
abbrev pub sib_for : Option (Reg32 × ℕ) → Option Reg32 → ℕ
sib_for None base = fields_byte 0 4 (base_number base)
sib_for (Some index) base = fields_byte (scale_bits index.1) (number32 index.0) (base_number base)

-- a SIB byte is needed for an index, and where the base is ESP
abbrev pub needs_sib : Option (Reg32 × ℕ) → Option Reg32 → Bool
needs_sib (Some index) base = true
needs_sib None base = base_number base == 4

-- ModRM and what follows it
abbrev pub fields_for : ℕ → Operand → List ℕ
fields_for reg (InRegister number) = fields_byte 3 reg number ∷ []
fields_for reg (InMemory m) =
    if needs_sib m.index m.base then fields_byte (mod_for m.base m.disp) reg 4 ∷ sib_for m.index m.base
    ∷ displacement_for m.base m.disp else fields_byte (mod_for m.base m.disp) reg (base_number m.base)
    ∷ displacement_for m.base m.disp

-- the preferred spelling
abbrev pub preferred : Insn → List ℕ
preferred (insn.Mov operand r) = 0x89 ∷ fields_for (number32 r) (operand32 operand)
preferred (insn.MovLoad r m) = 0x8b ∷ fields_for (number32 r) (InMemory m)
preferred (insn.MovImm (rm.Reg r) z) = (0xb8 + number32 r) ∷ word_bytes z
preferred (insn.MovImm (rm.Mem m) z) = 0xc7 ∷ fields_for 0 (InMemory m) ++ word_bytes z
preferred (insn.Mov8 operand r) = 0x88 ∷ fields_for (number8 r) (operand8 operand)
preferred (insn.Mov8Load r m) = 0x8a ∷ fields_for (number8 r) (InMemory m)
preferred (insn.Mov8Imm r n) = (0xb0 + number8 r) ∷ n ∷ []
preferred (insn.Mov16 operand r) = 0x66 ∷ 0x89 ∷ fields_for (number32 r) (operand32 operand)
preferred (insn.MovZx8 r operand) = 0x0f ∷ 0xb6 ∷ fields_for (number32 r) (operand8 operand)
preferred (insn.MovZx16 r operand) = 0x0f ∷ 0xb7 ∷ fields_for (number32 r) (operand32 operand)
preferred (insn.MovSx8 r operand) = 0x0f ∷ 0xbe ∷ fields_for (number32 r) (operand8 operand)
preferred (insn.MovSx16 r operand) = 0x0f ∷ 0xbf ∷ fields_for (number32 r) (operand32 operand)
preferred (insn.Xchg8 operand r) = 0x86 ∷ fields_for (number8 r) (operand8 operand)
preferred (insn.Xchg operand r) = 0x87 ∷ fields_for (number32 r) (operand32 operand)
preferred (insn.Lea r m) = 0x8d ∷ fields_for (number32 r) (InMemory m)
preferred (insn.Alu op operand r) = (8 * alu_number op + 1) ∷ fields_for (number32 r) (operand32 operand)
preferred (insn.AluLoad op r m) = (8 * alu_number op + 3) ∷ fields_for (number32 r) (InMemory m)
preferred (insn.AluImm op operand z) =
    if fits_byte z then 0x83 ∷ fields_for (alu_number op) (operand32 operand) ++ byte_bytes z
    else 0x81 ∷ fields_for (alu_number op) (operand32 operand) ++ word_bytes z
preferred (insn.Test operand r) = 0x85 ∷ fields_for (number32 r) (operand32 operand)
preferred (insn.IMul r operand) = 0x0f ∷ 0xaf ∷ fields_for (number32 r) (operand32 operand)
preferred (insn.Not operand) = 0xf7 ∷ fields_for 2 (operand32 operand)
preferred (insn.Neg operand) = 0xf7 ∷ fields_for 3 (operand32 operand)
preferred (insn.Div operand) = 0xf7 ∷ fields_for 6 (operand32 operand)
preferred (insn.IDiv operand) = 0xf7 ∷ fields_for 7 (operand32 operand)
preferred insn.Cdq = 0x99 ∷ []
preferred (insn.ShiftCl op operand) = 0xd3 ∷ fields_for (shift_number op) (operand32 operand)
preferred (insn.ShiftImm op operand n) = 0xc1 ∷ fields_for (shift_number op) (operand32 operand) ++ n ∷ []
preferred (insn.Push (rm.Reg r)) = (0x50 + number32 r) ∷ []
preferred (insn.Push (rm.Mem m)) = 0xff ∷ fields_for 6 (InMemory m)
preferred (insn.PushImm z) = 0x68 ∷ word_bytes z
preferred (insn.Pop r) = (0x58 + number32 r) ∷ []
preferred (insn.Call distance) = 0xe8 ∷ word_bytes distance
preferred insn.Ret = 0xc3 ∷ []
preferred insn.Leave = 0xc9 ∷ []
preferred (insn.Jmp distance) = 0xe9 ∷ word_bytes distance
preferred (insn.Jcc c distance) = 0x0f ∷ (0x80 + cond_number c) ∷ word_bytes distance
preferred (insn.SetCc c operand) = 0x0f ∷ (0x90 + cond_number c) ∷ fields_for 0 (operand8 operand)
preferred (insn.Int n) = 0xcd ∷ n ∷ []
preferred insn.Ud2 = 0x0f ∷ 0x0b ∷ []
preferred insn.Nop = 0x90 ∷ []
