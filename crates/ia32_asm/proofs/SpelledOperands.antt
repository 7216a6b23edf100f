-- An instruction has a spelling exactly where each of its operands in memory has an index that can be
-- named; the preferred spelling then is one.
use Rattle.std.specs.Prelude.{◌⊎◌, ℕ, ◌+◌, ◌*◌, ◌<◌, ℤ, List, [], ◌∷◌, ◌++◌, if◌then◌else◌, refl}
use Rattle.std.specs.Int.{w32}
use Rattle.std.specs.Int.RustNames.{FitsSigned}
use Rattle.std.proofs.Common.{inl, inr, lit<}
use Rattle.std.proofs.lemmas.Bool.{cases_Bool}
use Rattle.ia32_insn.specs.Registers.{number32, number8}
use Rattle.ia32_insn.specs.declared.operand.Rm32.{Rm32}
use Rattle.ia32_insn.specs.declared.operand.Rm32.TheVariants as rm
use Rattle.ia32_insn.specs.declared.operand.Rm8.{Rm8}
use Rattle.ia32_insn.specs.declared.operand.Rm8.TheVariants as rm8
use Rattle.ia32_insn.specs.declared.insn.AluOp.{AluOp}
use Rattle.ia32_insn.specs.declared.insn.AluOp.TheVariants as alu
use Rattle.ia32_insn.specs.declared.insn.ShiftOp.{ShiftOp}
use Rattle.ia32_insn.specs.declared.insn.ShiftOp.TheVariants as shift
use Rattle.ia32_insn.specs.declared.insn.Insn.{Insn}
use Rattle.ia32_insn.specs.declared.insn.Insn.TheVariants as insn
use Rattle.ia32_insn.specs.Spelling.{Spells, HasSpelling, HasFields, Row, RowWith, Reversed, Immediate, ReadsSigned}
use Rattle.ia32_insn.specs.Spelling.{Operand, InRegister, InMemory, operand32, operand8, alu_number, shift_number}
use Rattle.ia32_insn.specs.Spelling.{cond_number}
use Rattle.ia32_insn.specs.Preferred.{preferred, fields_for, fits_byte, word_bytes, byte_bytes}
use Rattle.ia32_asm.specs.Parts.{IsOperand, IsInRange, HasIndex, IsIndexed}
use Rattle.ia32_asm.proofs.Operands.{IsSpelled, number32-lt, number8-lt, fields-spelled, fields-preferred}
use Rattle.ia32_asm.proofs.Operands.{reads-word, reads-byte}
use Rattle.ia32_insn.proofs.Rows.{alu_below as alu_number-lt}

-- ---- operands

-- the index of an operand that is spelled can be named
index-spelled : (o : Operand) → IsSpelled o → HasIndex o
index-spelled (InRegister number) h = tt
index-spelled (InMemory m) h = h

spelled32 : (operand : Rm32) → HasIndex (operand32 operand) → IsSpelled (operand32 operand)
spelled32 (rm.Reg r) h = number32-lt r
spelled32 (rm.Mem m) h = h

spelled8 : (operand : Rm8) → HasIndex (operand8 operand) → IsSpelled (operand8 operand)
spelled8 (rm8.Reg r) h = number8-lt r
spelled8 (rm8.Mem m) h = h

shift_number-lt : (op : ShiftOp) → shift_number op < 8
shift_number-lt shift.Shl = lit< tt
shift_number-lt shift.Shr = lit< tt
shift_number-lt shift.Sar = lit< tt

-- ---- rows that are spelled have an index that can be named

fields-index : (reg : ℕ) (o : Operand) (bytes : List ℕ) → HasFields reg o bytes → HasIndex o
fields-index reg o bytes h = index-spelled o (fields-spelled reg o bytes h).1

row-index : (opcode : List ℕ) (reg : ℕ) (o : Operand) (bytes : List ℕ) → Row opcode reg o bytes → HasIndex o
row-index opcode reg o bytes h = fields-index reg o h.0 h.2

either-index : (opcode other : List ℕ) (reg : ℕ) (o : Operand) (bytes : List ℕ) → Row opcode reg o bytes
    ⊎ Reversed other o reg bytes → HasIndex o
either-index opcode other reg o bytes (inl h) = row-index opcode reg o bytes h
either-index opcode other reg (InRegister number) bytes (inr h) = tt
either-index opcode other reg (InMemory m) bytes (inr h) = absurd h

with-index : (opcode : List ℕ) (reg : ℕ) (o : Operand) (n : ℕ) (z : ℤ) (bytes : List ℕ) → RowWith opcode reg o n z bytes
    → HasIndex o
with-index opcode reg o n z bytes h = fields-index reg o h.0 h.3

-- ---- and rows with such an index are spelled

row-spells : (opcode : List ℕ) (reg : ℕ) (o : Operand) → reg < 8 → IsOperand o → IsSpelled o
    → Row opcode reg o (opcode ++ fields_for reg o)
row-spells opcode reg o below range h = (fields_for reg o, refl, fields-preferred reg o below h range)

with-spells : (opcode : List ℕ) (reg : ℕ) (o : Operand) (n : ℕ) (z : ℤ) (immediate : List ℕ) → reg < 8 → IsOperand o
    → IsSpelled o → ReadsSigned n immediate z
    → RowWith opcode reg o n z (opcode ++ fields_for reg o ++ immediate)
with-spells opcode reg o n z immediate below range h reads =
    (fields_for reg o, immediate, refl, fields-preferred reg o below h range, reads)

-- an immediate of one byte or four
alu-spells : (reg : ℕ) (o : Operand) (z : ℤ) → reg < 8 → IsOperand o → IsSpelled o → FitsSigned w32 z
    → RowWith (0x83 ∷ []) reg o 1 z (if fits_byte z then 0x83 ∷ fields_for reg o ++ byte_bytes z
    else 0x81 ∷ fields_for reg o ++ word_bytes z)
    ⊎ RowWith (0x81 ∷ []) reg o 4 z (if fits_byte z then 0x83 ∷ fields_for reg o ++ byte_bytes z
    else 0x81 ∷ fields_for reg o ++ word_bytes z)
alu-spells reg o z below range h fits =
    elim (cases_Bool (fits_byte z)) [
      | inl t ↦ inl (rw t (with-spells (0x83 ∷ []) reg o 1 z (byte_bytes z) below range h (reads-byte z t)))
      | inr f ↦ inr (rw f (with-spells (0x81 ∷ []) reg o 4 z (word_bytes z) below range h (reads-word z fits)))
    ]

immediate-spells : (opcode : List ℕ) (z : ℤ) → FitsSigned w32 z → Immediate opcode 4 z (opcode ++ word_bytes z)
immediate-spells opcode z fits = (word_bytes z, refl, reads-word z fits)

-- ---- instructions

-- what is spelled has indices that can be named
indexed-spelled : (i : Insn) → HasSpelling i → IsIndexed i
indexed-spelled (insn.Mov operand r) h = either-index (0x89 ∷ []) (0x8b ∷ []) (number32 r) (operand32 operand) h.0 h.1
indexed-spelled (insn.MovLoad r m) h = row-index (0x8b ∷ []) (number32 r) (InMemory m) h.0 h.1
indexed-spelled (insn.MovImm (rm.Reg r) z) h = (tt, tt)
indexed-spelled (insn.MovImm (rm.Mem m) z) h = (with-index (0xc7 ∷ []) 0 (InMemory m) 4 z h.0 h.1, tt)
indexed-spelled (insn.Mov8 operand r) h = either-index (0x88 ∷ []) (0x8a ∷ []) (number8 r) (operand8 operand) h.0 h.1
indexed-spelled (insn.Mov8Load r m) h = row-index (0x8a ∷ []) (number8 r) (InMemory m) h.0 h.1
indexed-spelled (insn.Mov8Imm r n) h = tt
indexed-spelled (insn.Mov16 operand r) h = row-index (0x66 ∷ 0x89 ∷ []) (number32 r) (operand32 operand) h.0 h.1
indexed-spelled (insn.MovZx8 r operand) h = row-index (0x0f ∷ 0xb6 ∷ []) (number32 r) (operand8 operand) h.0 h.1
indexed-spelled (insn.MovZx16 r operand) h = row-index (0x0f ∷ 0xb7 ∷ []) (number32 r) (operand32 operand) h.0 h.1
indexed-spelled (insn.MovSx8 r operand) h = row-index (0x0f ∷ 0xbe ∷ []) (number32 r) (operand8 operand) h.0 h.1
indexed-spelled (insn.MovSx16 r operand) h = row-index (0x0f ∷ 0xbf ∷ []) (number32 r) (operand32 operand) h.0 h.1
indexed-spelled (insn.Xchg8 operand r) h = row-index (0x86 ∷ []) (number8 r) (operand8 operand) h.0 h.1
indexed-spelled (insn.Xchg operand r) h = row-index (0x87 ∷ []) (number32 r) (operand32 operand) h.0 h.1
indexed-spelled (insn.Lea r m) h = row-index (0x8d ∷ []) (number32 r) (InMemory m) h.0 h.1
indexed-spelled (insn.Alu op operand r) h =
    either-index ((8 * alu_number op + 1) ∷ []) ((8 * alu_number op + 3) ∷ []) (number32 r) (operand32 operand) h.0 h.1
indexed-spelled (insn.AluLoad op r m) h = row-index ((8 * alu_number op + 3) ∷ []) (number32 r) (InMemory m) h.0 h.1
indexed-spelled (insn.AluImm op operand z) h = (
  elim h.1 [
    | inl short ↦ with-index (0x83 ∷ []) (alu_number op) (operand32 operand) 1 z h.0 short
    | inr long ↦
        with-index (0x81 ∷ []) (alu_number op) (operand32 operand) 4 z h.0 long
  ],
  tt,
)
indexed-spelled (insn.Test operand r) h = row-index (0x85 ∷ []) (number32 r) (operand32 operand) h.0 h.1
indexed-spelled (insn.IMul r operand) h = row-index (0x0f ∷ 0xaf ∷ []) (number32 r) (operand32 operand) h.0 h.1
indexed-spelled (insn.Not operand) h = row-index (0xf7 ∷ []) 2 (operand32 operand) h.0 h.1
indexed-spelled (insn.Neg operand) h = row-index (0xf7 ∷ []) 3 (operand32 operand) h.0 h.1
indexed-spelled (insn.Div operand) h = row-index (0xf7 ∷ []) 6 (operand32 operand) h.0 h.1
indexed-spelled (insn.IDiv operand) h = row-index (0xf7 ∷ []) 7 (operand32 operand) h.0 h.1
indexed-spelled insn.Cdq h = tt
indexed-spelled (insn.ShiftCl op operand) h = row-index (0xd3 ∷ []) (shift_number op) (operand32 operand) h.0 h.1
indexed-spelled (insn.ShiftImm op operand n) h = fields-index (shift_number op) (operand32 operand) h.1.0 h.1.2
indexed-spelled (insn.Push (rm.Reg r)) h = tt
indexed-spelled (insn.Push (rm.Mem m)) h = row-index (0xff ∷ []) 6 (InMemory m) h.0 h.1
indexed-spelled (insn.PushImm z) h = tt
indexed-spelled (insn.Pop r) h = tt
indexed-spelled (insn.Call distance) h = tt
indexed-spelled insn.Ret h = tt
indexed-spelled insn.Leave h = tt
indexed-spelled (insn.Jmp distance) h = tt
indexed-spelled (insn.Jcc c distance) h = tt
indexed-spelled (insn.SetCc c operand) h = fields-index h.1.0 (operand8 operand) h.1.1.0 h.1.1.2
indexed-spelled (insn.Int n) h = tt
indexed-spelled insn.Ud2 h = tt
indexed-spelled insn.Nop h = tt

-- the preferred spelling is one, where the indices can be named
pub preferred-indexed : (i : Insn) → IsInRange i → IsIndexed i → Spells i (preferred i)
preferred-indexed (insn.Mov operand r) range index =
    inl (row-spells (0x89 ∷ []) (number32 r) (operand32 operand) (number32-lt r) range (spelled32 operand index))
preferred-indexed (insn.MovLoad r m) range index =
    row-spells (0x8b ∷ []) (number32 r) (InMemory m) (number32-lt r) range index
preferred-indexed (insn.MovImm (rm.Reg r) z) range index = inl (immediate-spells ((0xb8 + number32 r) ∷ []) z range.1)
preferred-indexed (insn.MovImm (rm.Mem m) z) range index =
    with-spells (0xc7 ∷ []) 0 (InMemory m) 4 z (word_bytes z) (lit< tt) range.0 index.0 (reads-word z range.1)
preferred-indexed (insn.Mov8 operand r) range index =
    inl (row-spells (0x88 ∷ []) (number8 r) (operand8 operand) (number8-lt r) range (spelled8 operand index))
preferred-indexed (insn.Mov8Load r m) range index =
    row-spells (0x8a ∷ []) (number8 r) (InMemory m) (number8-lt r) range index
preferred-indexed (insn.Mov8Imm r n) range index = refl
preferred-indexed (insn.Mov16 operand r) range index =
    row-spells (0x66 ∷ 0x89 ∷ []) (number32 r) (operand32 operand) (number32-lt r) range (spelled32 operand index)
preferred-indexed (insn.MovZx8 r operand) range index =
    row-spells (0x0f ∷ 0xb6 ∷ []) (number32 r) (operand8 operand) (number32-lt r) range (spelled8 operand index)
preferred-indexed (insn.MovZx16 r operand) range index =
    row-spells (0x0f ∷ 0xb7 ∷ []) (number32 r) (operand32 operand) (number32-lt r) range (spelled32 operand index)
preferred-indexed (insn.MovSx8 r operand) range index =
    row-spells (0x0f ∷ 0xbe ∷ []) (number32 r) (operand8 operand) (number32-lt r) range (spelled8 operand index)
preferred-indexed (insn.MovSx16 r operand) range index =
    row-spells (0x0f ∷ 0xbf ∷ []) (number32 r) (operand32 operand) (number32-lt r) range (spelled32 operand index)
preferred-indexed (insn.Xchg8 operand r) range index =
    row-spells (0x86 ∷ []) (number8 r) (operand8 operand) (number8-lt r) range (spelled8 operand index)
preferred-indexed (insn.Xchg operand r) range index =
    row-spells (0x87 ∷ []) (number32 r) (operand32 operand) (number32-lt r) range (spelled32 operand index)
preferred-indexed (insn.Lea r m) range index =
    row-spells (0x8d ∷ []) (number32 r) (InMemory m) (number32-lt r) range index
preferred-indexed (insn.Alu op operand r) range index =
    inl (row-spells ((8 * alu_number op + 1) ∷ []) (number32 r) (operand32 operand) (number32-lt r) range
    (spelled32 operand index))
preferred-indexed (insn.AluLoad op r m) range index =
    row-spells ((8 * alu_number op + 3) ∷ []) (number32 r) (InMemory m) (number32-lt r) range index
preferred-indexed (insn.AluImm op operand z) range index =
    alu-spells (alu_number op) (operand32 operand) z (alu_number-lt op) range.0 (spelled32 operand index.0) range.1
preferred-indexed (insn.Test operand r) range index =
    row-spells (0x85 ∷ []) (number32 r) (operand32 operand) (number32-lt r) range (spelled32 operand index)
preferred-indexed (insn.IMul r operand) range index =
    row-spells (0x0f ∷ 0xaf ∷ []) (number32 r) (operand32 operand) (number32-lt r) range (spelled32 operand index)
preferred-indexed (insn.Not operand) range index =
    row-spells (0xf7 ∷ []) 2 (operand32 operand) (lit< tt) range (spelled32 operand index)
preferred-indexed (insn.Neg operand) range index =
    row-spells (0xf7 ∷ []) 3 (operand32 operand) (lit< tt) range (spelled32 operand index)
preferred-indexed (insn.Div operand) range index =
    row-spells (0xf7 ∷ []) 6 (operand32 operand) (lit< tt) range (spelled32 operand index)
preferred-indexed (insn.IDiv operand) range index =
    row-spells (0xf7 ∷ []) 7 (operand32 operand) (lit< tt) range (spelled32 operand index)
preferred-indexed insn.Cdq range index = refl
preferred-indexed (insn.ShiftCl op operand) range index =
    row-spells (0xd3 ∷ []) (shift_number op) (operand32 operand) (shift_number-lt op) range (spelled32 operand index)
preferred-indexed (insn.ShiftImm op operand n) range index = (
  fields_for (shift_number op) (operand32 operand),
  refl,
  fields-preferred (shift_number op) (operand32 operand) (shift_number-lt op) (spelled32 operand index) range,
)
preferred-indexed (insn.Push (rm.Reg r)) range index = inl refl
preferred-indexed (insn.Push (rm.Mem m)) range index = row-spells (0xff ∷ []) 6 (InMemory m) (lit< tt) range index
preferred-indexed (insn.PushImm z) range index = immediate-spells (0x68 ∷ []) z range
preferred-indexed (insn.Pop r) range index = refl
preferred-indexed (insn.Call distance) range index = immediate-spells (0xe8 ∷ []) distance range
preferred-indexed insn.Ret range index = refl
preferred-indexed insn.Leave range index = refl
preferred-indexed (insn.Jmp distance) range index = inl (immediate-spells (0xe9 ∷ []) distance range)
preferred-indexed (insn.Jcc c distance) range index =
    inl (immediate-spells (0x0f ∷ (0x80 + cond_number c) ∷ []) distance range)
preferred-indexed (insn.SetCc c operand) range index =
    (0, row-spells (0x0f ∷ (0x90 + cond_number c) ∷ []) 0 (operand8 operand) (lit< tt) range (spelled8 operand index))
preferred-indexed (insn.Int n) range index = refl
preferred-indexed insn.Ud2 range index = refl
preferred-indexed insn.Nop range index = refl

-- so such an instruction has a spelling
pub spelling-indexed : (i : Insn) → IsInRange i → IsIndexed i → HasSpelling i
spelling-indexed i range index = (preferred i, preferred-indexed i range index)

-- and where an instruction has a spelling, the preferred one is one
pub preferred-spells : (i : Insn) → IsInRange i → HasSpelling i → Spells i (preferred i)
preferred-spells i range h = preferred-indexed i range (indexed-spelled i h)
