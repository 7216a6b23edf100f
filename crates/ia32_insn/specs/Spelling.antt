-- How instructions are spelled in bytes (Intel manual, volume 2, chapter 2 and the opcode tables of each
-- instruction): the opcode, and then fields that read as the operands. An instruction may have several
-- spellings.
use Rattle.std.specs.Prelude.{◌≡◌, ◌≢◌, ◌⊎◌, ◌<◌, ℕ, ◌+◌, ◌*◌, ◌/◌, ◌%◌, ◌^◌, ◌≤◌, ℤ, ◌&&◌, ◌==◌, List, [], ◌∷◌, ◌++◌}
use Rattle.std.specs.Prelude.{length, take, Option, Some, None, option_map, if◌then◌else◌}
use Rattle.byteorder.specs.Endian.{little_number, twos_complement}
use Rattle.ia32_insn.specs.Registers.{number32, number8}
use Rattle.ia32_insn.specs.declared.register_names.Reg32.{Reg32}
use Rattle.ia32_insn.specs.declared.operand.Mem.{Mem}
use Rattle.ia32_insn.specs.declared.operand.Rm32.{Rm32}
use Rattle.ia32_insn.specs.declared.operand.Rm32.TheVariants as rm
use Rattle.ia32_insn.specs.declared.operand.Rm8.{Rm8}
use Rattle.ia32_insn.specs.declared.operand.Rm8.TheVariants as rm8
use Rattle.ia32_insn.specs.declared.insn.AluOp.{AluOp}
use Rattle.ia32_insn.specs.declared.insn.AluOp.TheVariants as alu
use Rattle.ia32_insn.specs.declared.insn.ShiftOp.{ShiftOp}
use Rattle.ia32_insn.specs.declared.insn.ShiftOp.TheVariants as shift
use Rattle.ia32_insn.specs.declared.insn.Cond.{Cond}
use Rattle.ia32_insn.specs.declared.insn.Cond.TheVariants as cond
use Rattle.ia32_insn.specs.declared.insn.Insn.{Insn}
use Rattle.ia32_insn.specs.declared.insn.Insn.TheVariants as insn

-- n bytes, the lowest first, that read as a signed number
pub record ReadsSigned (n : ℕ) (bytes : List ℕ) (z : ℤ) : Type 0 where
  pub count : length bytes ≡ n
  pub reads : twos_complement n (little_number n bytes) ≡ z

-- ---- ModRM, SIB and displacement (volume 2, section 2.1.3, and tables 2-2 and 2-3)

-- the two high bits of a byte, the three below them, and the three lowest: mod, reg and r/m of ModRM; scale,
-- index and base of SIB
abbrev pub high_field : ℕ → ℕ
high_field byte = byte / 64

abbrev pub middle_field : ℕ → ℕ
middle_field byte = byte / 8 % 8

abbrev pub low_field : ℕ → ℕ
low_field byte = byte % 8

-- the register that the r/m field or a SIB byte names as base: with mod 0, number 5 means that there is none
abbrev pub base_named : ℕ → ℕ → Option ℕ
base_named mode number = if mode == 0 && number == 5 then None else Some number

-- how many bytes of displacement follow: 1 with mod 1, 4 with mod 2, and with mod 0 none, but 4 in place of a base
abbrev pub displacement_size : ℕ → ℕ → ℕ
displacement_size mode number = if mode == 1 then 1 else if mode == 2 then 4 else if number == 5 then 4 else 0

-- the index register of a SIB byte, and what it is multiplied by: number 4 means that there is none
abbrev pub index_named : ℕ → ℕ → Option (ℕ × ℕ)
index_named scale number = if number == 4 then None else Some (number, 2 ^ scale)

-- a memory operand with this base, this index, and a displacement that these bytes read as
pub record IsAddress (mode base : ℕ) (index : Option (ℕ × ℕ)) (m : Mem) (bytes : List ℕ) : Type 0 where
  pub base_is : option_map number32 m.base ≡ base_named mode base
  pub index_is : option_map (λ (i : Reg32 × ℕ). (number32 i.0, i.1)) m.index ≡ index
  pub displacement : ReadsSigned (displacement_size mode base) bytes m.disp

-- the memory operand that a SIB byte and what follows it name
abbrev pub HasSib : ℕ → Mem → List ℕ → Type 0
HasSib mode m bytes =
    (sib : ℕ) × (rest : List ℕ) × (bytes ≡ sib ∷ rest) × (sib < 256)
    × IsAddress mode (low_field sib) (index_named (high_field sib) (middle_field sib)) m rest

-- the memory operand that mod, r/m and what follows a ModRM byte name: a SIB byte follows where r/m is 4
abbrev pub IsMemory : ℕ → ℕ → Mem → List ℕ → Type 0
IsMemory mode number m bytes = ((number ≢ 4) × IsAddress mode number None m bytes)
    ⊎ ((number ≡ 4) × HasSib mode m bytes)

-- what the r/m field names: the register with a number, or memory
pub data Operand : Type 0 where
  InRegister : (number : ℕ) → Operand
  InMemory : (memory : Mem) → Operand

-- a ModRM byte, and what follows it, with this number in its reg field and this operand in its r/m field
abbrev pub HasFields : ℕ → Operand → List ℕ → Type 0
HasFields reg (InRegister number) bytes =
    (modrm : ℕ) × (bytes ≡ modrm ∷ []) × (high_field modrm ≡ 3) × (middle_field modrm ≡ reg)
    × (low_field modrm ≡ number)
HasFields reg (InMemory m) bytes =
    (modrm : ℕ) × (rest : List ℕ) × (bytes ≡ modrm ∷ rest) × (high_field modrm < 3) × (middle_field modrm ≡ reg)
    × IsMemory (high_field modrm) (low_field modrm) m rest

-- ---- rows

-- the opcode, and then these fields
abbrev pub Row : List ℕ → ℕ → Operand → List ℕ → Type 0
Row opcode reg operand bytes = (fields : List ℕ) × (bytes ≡ opcode ++ fields) × HasFields reg operand fields

-- the opcode, these fields, and then n bytes that read as a signed number
abbrev pub RowWith : List ℕ → ℕ → Operand → ℕ → ℤ → List ℕ → Type 0
RowWith opcode reg operand n z bytes =
    (fields : List ℕ) × (rest : List ℕ) × (bytes ≡ opcode ++ fields ++ rest) × HasFields reg operand fields
    × ReadsSigned n rest z

-- the opcode, and then n bytes that read as a signed number
abbrev pub Immediate : List ℕ → ℕ → ℤ → List ℕ → Type 0
Immediate opcode n z bytes = (rest : List ℕ) × (bytes ≡ opcode ++ rest) × ReadsSigned n rest z

abbrev pub operand32 : Rm32 → Operand
operand32 (rm.Reg r) = InRegister (number32 r)
operand32 (rm.Mem m) = InMemory m

abbrev pub operand8 : Rm8 → Operand
operand8 (rm8.Reg r) = InRegister (number8 r)
operand8 (rm8.Mem m) = InMemory m

-- between two registers, the row in which the destination stands in the reg field
abbrev pub Reversed : List ℕ → Operand → ℕ → List ℕ → Type 0
Reversed opcode (InRegister number) source bytes = Row opcode number (InRegister source) bytes
Reversed opcode (InMemory m) source bytes = ⊥

-- the numbers of the operations, which are in the opcode and after /
abbrev pub alu_number : AluOp → ℕ
alu_number alu.Add = 0
alu_number alu.Or = 1
alu_number alu.And = 4
alu_number alu.Sub = 5
alu_number alu.Xor = 6
alu_number alu.Cmp = 7

abbrev pub shift_number : ShiftOp → ℕ
shift_number shift.Shl = 4
shift_number shift.Shr = 5
shift_number shift.Sar = 7

-- the numbers of the conditions (volume 1, appendix B)
abbrev pub cond_number : Cond → ℕ
cond_number cond.O = 0
cond_number cond.No = 1
cond_number cond.B = 2
cond_number cond.Ae = 3
cond_number cond.E = 4
cond_number cond.Ne = 5
cond_number cond.Be = 6
cond_number cond.A = 7
cond_number cond.S = 8
cond_number cond.Ns = 9
cond_number cond.P = 10
cond_number cond.Np = 11
cond_number cond.L = 12
cond_number cond.Ge = 13
cond_number cond.Le = 14
cond_number cond.G = 15

-- the bytes are a spelling of the instruction
abbrev pub Spells : Insn → List ℕ → Type 0
-- MOV r/m32, r32: 89 /r; MOV r32, r/m32: 8B /r
Spells (insn.Mov operand r) bytes = Row (0x89 ∷ []) (number32 r) (operand32 operand) bytes
    ⊎ Reversed (0x8b ∷ []) (operand32 operand) (number32 r) bytes
Spells (insn.MovLoad r m) bytes = Row (0x8b ∷ []) (number32 r) (InMemory m) bytes
-- MOV r32, imm32: B8+rd id; MOV r/m32, imm32: C7 /0 id
Spells (insn.MovImm (rm.Reg r) z) bytes = Immediate ((0xb8 + number32 r) ∷ []) 4 z bytes
    ⊎ RowWith (0xc7 ∷ []) 0 (InRegister (number32 r)) 4 z bytes
Spells (insn.MovImm (rm.Mem m) z) bytes = RowWith (0xc7 ∷ []) 0 (InMemory m) 4 z bytes
-- MOV r/m8, r8: 88 /r; MOV r8, r/m8: 8A /r
Spells (insn.Mov8 operand r) bytes = Row (0x88 ∷ []) (number8 r) (operand8 operand) bytes
    ⊎ Reversed (0x8a ∷ []) (operand8 operand) (number8 r) bytes
Spells (insn.Mov8Load r m) bytes = Row (0x8a ∷ []) (number8 r) (InMemory m) bytes
-- MOV r8, imm8: B0+rb ib
Spells (insn.Mov8Imm r n) bytes = bytes ≡ (0xb0 + number8 r) ∷ n ∷ []
-- MOV r/m16, r16: 66 89 /r
Spells (insn.Mov16 operand r) bytes = Row (0x66 ∷ 0x89 ∷ []) (number32 r) (operand32 operand) bytes
-- MOVZX r32, r/m8: 0F B6 /r; MOVZX r32, r/m16: 0F B7 /r
Spells (insn.MovZx8 r operand) bytes = Row (0x0f ∷ 0xb6 ∷ []) (number32 r) (operand8 operand) bytes
Spells (insn.MovZx16 r operand) bytes = Row (0x0f ∷ 0xb7 ∷ []) (number32 r) (operand32 operand) bytes
-- MOVSX r32, r/m8: 0F BE /r; MOVSX r32, r/m16: 0F BF /r
Spells (insn.MovSx8 r operand) bytes = Row (0x0f ∷ 0xbe ∷ []) (number32 r) (operand8 operand) bytes
Spells (insn.MovSx16 r operand) bytes = Row (0x0f ∷ 0xbf ∷ []) (number32 r) (operand32 operand) bytes
-- XCHG r/m8, r8: 86 /r; XCHG r/m32, r32: 87 /r
Spells (insn.Xchg8 operand r) bytes = Row (0x86 ∷ []) (number8 r) (operand8 operand) bytes
Spells (insn.Xchg operand r) bytes = Row (0x87 ∷ []) (number32 r) (operand32 operand) bytes
-- LEA r32, m: 8D /r
Spells (insn.Lea r m) bytes = Row (0x8d ∷ []) (number32 r) (InMemory m) bytes
-- ADD, OR, AND, SUB, XOR, CMP r/m32, r32: 01, 09, 21, 29, 31, 39 /r; with r32, r/m32: 03, 0B, 23, 2B, 33, 3B /r
Spells (insn.Alu op operand r) bytes =
    Row ((8 * alu_number op + 1) ∷ []) (number32 r) (operand32 operand) bytes
    ⊎ Reversed ((8 * alu_number op + 3) ∷ []) (operand32 operand) (number32 r) bytes
Spells (insn.AluLoad op r m) bytes = Row ((8 * alu_number op + 3) ∷ []) (number32 r) (InMemory m) bytes
-- the same r/m32, imm8, sign-extended: 83 /n ib; r/m32, imm32: 81 /n id
Spells (insn.AluImm op operand z) bytes = RowWith (0x83 ∷ []) (alu_number op) (operand32 operand) 1 z bytes
    ⊎ RowWith (0x81 ∷ []) (alu_number op) (operand32 operand) 4 z bytes
-- TEST r/m32, r32: 85 /r
Spells (insn.Test operand r) bytes = Row (0x85 ∷ []) (number32 r) (operand32 operand) bytes
-- IMUL r32, r/m32: 0F AF /r
Spells (insn.IMul r operand) bytes = Row (0x0f ∷ 0xaf ∷ []) (number32 r) (operand32 operand) bytes
-- NOT, NEG, DIV, IDIV r/m32: F7 /2, /3, /6, /7
Spells (insn.Not operand) bytes = Row (0xf7 ∷ []) 2 (operand32 operand) bytes
Spells (insn.Neg operand) bytes = Row (0xf7 ∷ []) 3 (operand32 operand) bytes
Spells (insn.Div operand) bytes = Row (0xf7 ∷ []) 6 (operand32 operand) bytes
Spells (insn.IDiv operand) bytes = Row (0xf7 ∷ []) 7 (operand32 operand) bytes
-- CDQ: 99
Spells insn.Cdq bytes = bytes ≡ 0x99 ∷ []
-- SHL, SHR, SAR r/m32, CL: D3 /4, /5, /7; with imm8: C1 /4, /5, /7 ib
Spells (insn.ShiftCl op operand) bytes = Row (0xd3 ∷ []) (shift_number op) (operand32 operand) bytes
Spells (insn.ShiftImm op operand n) bytes =
    (fields : List ℕ) × (bytes ≡ 0xc1 ∷ fields ++ n ∷ []) × HasFields (shift_number op) (operand32 operand) fields
-- PUSH r32: 50+rd; PUSH r/m32: FF /6
Spells (insn.Push (rm.Reg r)) bytes = (bytes ≡ (0x50 + number32 r) ∷ [])
    ⊎ Row (0xff ∷ []) 6 (InRegister (number32 r)) bytes
Spells (insn.Push (rm.Mem m)) bytes = Row (0xff ∷ []) 6 (InMemory m) bytes
-- PUSH imm32: 68 id; POP r32: 58+rd
Spells (insn.PushImm z) bytes = Immediate (0x68 ∷ []) 4 z bytes
Spells (insn.Pop r) bytes = bytes ≡ (0x58 + number32 r) ∷ []
-- CALL rel32: E8 cd; RET: C3; LEAVE: C9
Spells (insn.Call distance) bytes = Immediate (0xe8 ∷ []) 4 distance bytes
Spells insn.Ret bytes = bytes ≡ 0xc3 ∷ []
Spells insn.Leave bytes = bytes ≡ 0xc9 ∷ []
-- JMP rel32: E9 cd; JMP rel8: EB cb
Spells (insn.Jmp distance) bytes = Immediate (0xe9 ∷ []) 4 distance bytes ⊎ Immediate (0xeb ∷ []) 1 distance bytes
-- Jcc rel32: 0F 80+cc cd; Jcc rel8: 70+cc cb
Spells (insn.Jcc c distance) bytes = Immediate (0x0f ∷ (0x80 + cond_number c) ∷ []) 4 distance bytes
    ⊎ Immediate ((0x70 + cond_number c) ∷ []) 1 distance bytes
-- SETcc r/m8: 0F 90+cc, with any reg field
Spells (insn.SetCc c operand) bytes = (reg : ℕ) × Row (0x0f ∷ (0x90 + cond_number c) ∷ []) reg (operand8 operand) bytes
-- INT imm8: CD ib; UD2: 0F 0B; NOP: 90
Spells (insn.Int n) bytes = bytes ≡ 0xcd ∷ n ∷ []
Spells insn.Ud2 bytes = bytes ≡ 0x0f ∷ 0x0b ∷ []
Spells insn.Nop bytes = bytes ≡ 0x90 ∷ []

-- the first n bytes are a spelling of the instruction
abbrev pub Begins : Insn → ℕ → List ℕ → Type 0
Begins i n bytes = (n ≤ length bytes) × Spells i (take n bytes)

-- no instruction is spelled at the beginning of the bytes
abbrev pub NoneBegins : List ℕ → Type 0
NoneBegins bytes = (i : Insn) (n : ℕ) → Begins i n bytes → ⊥

-- the instruction has a spelling
abbrev pub HasSpelling : Insn → Type 0
HasSpelling i = (bytes : List ℕ) × Spells i bytes
