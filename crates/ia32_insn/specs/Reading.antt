-- The instruction that begins some bytes, and the length of its spelling, read from the front: a map of the
-- opcodes (Intel manual, volume 2, appendix A) by what follows them. It reads exactly what `Spelling.antt`
-- says is spelled, which is proved in `proofs/Spelling.antt`.
use Rattle.std.specs.Prelude.{ℕ, ◌+◌, ◌-◌, ◌/◌, ◌%◌, ◌^◌, ℤ, Bool, ◌&&◌, ◌||◌, ◌==◌, nat_le, nat_lt, List, [], ◌∷◌}
use Rattle.std.specs.Prelude.{length, drop, Option, Some, None, option_and_then, if◌then◌else◌}
use Rattle.byteorder.specs.Endian.{little_number, twos_complement}
use Rattle.ia32_insn.specs.declared.register_names.Reg32.{Reg32}
use Rattle.ia32_insn.specs.declared.register_names.Reg32.TheVariants.{Eax, Ecx, Edx, Ebx, Esp, Ebp, Esi, Edi}
use Rattle.ia32_insn.specs.declared.register_names.Reg8.{Reg8}
use Rattle.ia32_insn.specs.declared.register_names.Reg8.TheVariants.{Al, Cl, Dl, Bl, Ah, Ch, Dh, Bh}
use Rattle.ia32_insn.specs.declared.operand.Mem.{Mem}
use Rattle.ia32_insn.specs.declared.operand.Rm32.{Rm32}
use Rattle.ia32_insn.specs.declared.operand.Rm32.TheVariants as rm
use Rattle.ia32_insn.specs.declared.operand.Rm8.{Rm8}
use Rattle.ia32_insn.specs.declared.operand.Rm8.TheVariants as rm8
use Rattle.ia32_insn.specs.declared.insn.AluOp.{AluOp}
use Rattle.ia32_insn.specs.declared.insn.AluOp.TheVariants as alu
use Rattle.ia32_insn.specs.declared.insn.ShiftOp.{ShiftOp}
use Rattle.ia32_insn.specs.declared.insn.ShiftOp.TheVariants as shift
use Rattle.ia32_insn.specs.declared.insn.Cond.{Cond}
use Rattle.ia32_insn.specs.declared.insn.Cond.TheVariants as cond
use Rattle.ia32_insn.specs.declared.insn.Insn.{Insn}
use Rattle.ia32_insn.specs.declared.insn.Insn.TheVariants as insn
use Rattle.ia32_insn.specs.Spelling.{high_field, middle_field, low_field, displacement_size, Operand, InRegister}
use Rattle.ia32_insn.specs.Spelling.{InMemory}

-- a part is read, and then the next
infixl 10 ◌>>=◌
abbrev pub ◌>>=◌ : {A B : Type 0} → Option A → (A → Option B) → Option B
o >>= f = option_and_then f o

-- ---- numbers of registers, conditions and operations

-- the register with a number; 7 and more have the last
unfoldable pub register_at : ℕ → Reg32
register_at n =
    if n == 0 then Eax
    else if n == 1 then Ecx
    else if n == 2 then Edx
    else if n == 3 then Ebx
    else if n == 4 then Esp
    else if n == 5 then Ebp
    else if n == 6 then Esi
    else Edi

unfoldable pub byte_register_at : ℕ → Reg8
byte_register_at n =
    if n == 0 then Al
    else if n == 1 then Cl
    else if n == 2 then Dl
    else if n == 3 then Bl
    else if n == 4 then Ah
    else if n == 5 then Ch
    else if n == 6 then Dh
    else Bh

-- the condition with a number; 15 and more have the last
unfoldable pub condition_at : ℕ → Cond
condition_at n =
    if n == 0 then cond.O
    else if n == 1 then cond.No
    else if n == 2 then cond.B
    else if n == 3 then cond.Ae
    else if n == 4 then cond.E
    else if n == 5 then cond.Ne
    else if n == 6 then cond.Be
    else if n == 7 then cond.A
    else if n == 8 then cond.S
    else if n == 9 then cond.Ns
    else if n == 10 then cond.P
    else if n == 11 then cond.Np
    else if n == 12 then cond.L
    else if n == 13 then cond.Ge
    else if n == 14 then cond.Le
    else cond.G

-- the operation with a number, and the shift, where there is one
unfoldable pub operation_at : ℕ → Option AluOp
operation_at n =
    if n == 0 then Some alu.Add
    else if n == 1 then Some alu.Or
    else if n == 4 then Some alu.And
    else if n == 5 then Some alu.Sub
    else if n == 6 then Some alu.Xor
    else if n == 7 then Some alu.Cmp
    else None

unfoldable pub shift_at : ℕ → Option ShiftOp
shift_at n =
    if n == 4 then Some shift.Shl
    else if n == 5 then Some shift.Shr
    else if n == 7 then Some shift.Sar
    else None

-- ---- fields: each part of them, and how many bytes it takes

-- the first n bytes as a signed number
unfoldable pub read_signed : ℕ → List ℕ → Option ℤ
read_signed n bytes =
    if nat_le n (length bytes) then Some (twos_complement n (little_number n bytes))
    else None

-- the first byte
unfoldable pub read_byte : List ℕ → Option ℕ
read_byte [] = None
read_byte (byte ∷ rest) = Some byte

unfoldable pub read_base : ℕ → ℕ → Option Reg32
read_base mode number = if mode == 0 && number == 5 then None else Some (register_at number)

unfoldable pub read_index : ℕ → ℕ → Option (Reg32 × ℕ)
read_index scale number = if number == 4 then None else Some (register_at number, 2 ^ scale)

-- a displacement makes a memory operand of a base and an index
unfoldable pub read_address : ℕ → ℕ → Option (Reg32 × ℕ) → List ℕ → Option (Mem × ℕ)
read_address mode base index bytes = do
  disp ← read_signed (displacement_size mode base) bytes
  Some (record { base = read_base mode base; index = index; disp = disp }, displacement_size mode base)

unfoldable pub read_sib : ℕ → List ℕ → Option (Mem × ℕ)
read_sib mode [] = None
read_sib mode (sib ∷ rest) =
    if nat_lt sib 256
    then (read_address mode (low_field sib) (read_index (high_field sib) (middle_field sib)) rest
    >>= (λ m. Some (m.0, 1 + m.1)))
    else None

-- what follows a ModRM byte with this mod, which isn't 3, and this r/m
unfoldable pub read_memory : ℕ → ℕ → List ℕ → Option (Mem × ℕ)
read_memory mode number bytes =
    if number == 4 then read_sib mode bytes
    else read_address mode number None bytes

-- the number in the reg field, and the operand in the r/m field
unfoldable pub read_fields : List ℕ → Option (ℕ × Operand × ℕ)
read_fields [] = None
read_fields (modrm ∷ rest) =
    if high_field modrm == 3 then Some (middle_field modrm, InRegister (low_field modrm), 1)
    else if nat_lt (high_field modrm) 3
    then (read_memory (high_field modrm) (low_field modrm) rest
    >>= (λ m. Some (middle_field modrm, InMemory m.0, 1 + m.1)))
    else None

-- the operand of 32 or 16 bits, or of 8
abbrev pub rm32_of : Operand → Rm32
rm32_of (InRegister number) = rm.Reg (register_at number)
rm32_of (InMemory m) = rm.Mem m

abbrev pub rm8_of : Operand → Rm8
rm8_of (InRegister number) = rm8.Reg (byte_register_at number)
rm8_of (InMemory m) = rm8.Mem m

unfoldable pub read_fields32 : List ℕ → Option (ℕ × Rm32 × ℕ)
read_fields32 bytes = read_fields bytes >>= (λ f. Some (f.0, rm32_of f.1, f.2))

unfoldable pub read_fields8 : List ℕ → Option (ℕ × Rm8 × ℕ)
read_fields8 bytes = read_fields bytes >>= (λ f. Some (f.0, rm8_of f.1, f.2))

-- ---- which instruction an opcode makes of its fields

-- no fields: 50+rd, 58+rd, 90, 99, C3, C9
unfoldable pub lone_insn : ℕ → Option Insn
lone_insn opcode =
    if nat_le 0x50 opcode && nat_lt opcode 0x58 then Some (insn.Push (rm.Reg (register_at (opcode - 0x50))))
    else if nat_le 0x58 opcode && nat_lt opcode 0x60 then Some (insn.Pop (register_at (opcode - 0x58)))
    else if opcode == 0x90 then Some insn.Nop
    else if opcode == 0x99 then Some insn.Cdq
    else if opcode == 0xc3 then Some insn.Ret
    else if opcode == 0xc9 then Some insn.Leave
    else None

-- a byte: B0+rb, CD
unfoldable pub byte_insn : ℕ → ℕ → Option Insn
byte_insn opcode n =
    if nat_le 0xb0 opcode && nat_lt opcode 0xb8 then Some (insn.Mov8Imm (byte_register_at (opcode - 0xb0)) n)
    else if opcode == 0xcd then Some (insn.Int n)
    else None

-- a signed byte: 70+cc, EB
unfoldable pub short_insn : ℕ → ℤ → Option Insn
short_insn opcode z =
    if nat_le 0x70 opcode && nat_lt opcode 0x80 then Some (insn.Jcc (condition_at (opcode - 0x70)) z)
    else if opcode == 0xeb then Some (insn.Jmp z)
    else None

-- four bytes: 68, B8+rd, E8, E9
unfoldable pub long_insn : ℕ → ℤ → Option Insn
long_insn opcode z =
    if opcode == 0x68 then Some (insn.PushImm z)
    else if nat_le 0xb8 opcode && nat_lt opcode 0xc0 then Some (insn.MovImm (rm.Reg (register_at (opcode - 0xb8))) z)
    else if opcode == 0xe8 then Some (insn.Call z)
    else if opcode == 0xe9 then Some (insn.Jmp z)
    else None

-- from memory, or between registers, with the destination in the reg field
abbrev pub mov_from : Reg32 → Rm32 → Insn
mov_from r (rm.Reg source) = insn.Mov (rm.Reg r) source
mov_from r (rm.Mem m) = insn.MovLoad r m

abbrev pub mov8_from : Reg8 → Rm8 → Insn
mov8_from r (rm8.Reg source) = insn.Mov8 (rm8.Reg r) source
mov8_from r (rm8.Mem m) = insn.Mov8Load r m

abbrev pub alu_from : AluOp → Reg32 → Rm32 → Insn
alu_from op r (rm.Reg source) = insn.Alu op (rm.Reg r) source
alu_from op r (rm.Mem m) = insn.AluLoad op r m

abbrev pub lea_from : Reg32 → Rm32 → Option Insn
lea_from r (rm.Reg source) = None
lea_from r (rm.Mem m) = Some (insn.Lea r m)

-- the low three bits of the opcode say which way
unfoldable pub alu_insn : ℕ → AluOp → Reg32 → Rm32 → Option Insn
alu_insn way op r operand =
    if way == 1 then Some (insn.Alu op operand r)
    else if way == 3 then Some (alu_from op r operand)
    else None

-- F7 /2, /3, /6, /7
unfoldable pub unary_insn : ℕ → Rm32 → Option Insn
unary_insn number operand =
    if number == 2 then Some (insn.Not operand)
    else if number == 3 then Some (insn.Neg operand)
    else if number == 6 then Some (insn.Div operand)
    else if number == 7 then Some (insn.IDiv operand)
    else None

-- ModRM with an operand of 32 bits: 00 to 3F, 85, 87, 89, 8B, 8D, D3, F7, FF
unfoldable pub fields32_insn : ℕ → ℕ → Rm32 → Option Insn
fields32_insn opcode reg operand =
    if nat_lt opcode 0x40
    then (operation_at (opcode / 8) >>= (λ op. alu_insn (opcode % 8) op (register_at reg) operand))
    else if opcode == 0x85 then Some (insn.Test operand (register_at reg))
    else if opcode == 0x87 then Some (insn.Xchg operand (register_at reg))
    else if opcode == 0x89 then Some (insn.Mov operand (register_at reg))
    else if opcode == 0x8b then Some (mov_from (register_at reg) operand)
    else if opcode == 0x8d then lea_from (register_at reg) operand
    else if opcode == 0xd3 then (shift_at reg >>= (λ op. Some (insn.ShiftCl op operand)))
    else if opcode == 0xf7 then unary_insn reg operand
    else if opcode == 0xff && reg == 6 then Some (insn.Push operand)
    else None

-- with one of 8 bits: 86, 88, 8A
unfoldable pub fields8_insn : ℕ → ℕ → Rm8 → Option Insn
fields8_insn opcode reg operand =
    if opcode == 0x86 then Some (insn.Xchg8 operand (byte_register_at reg))
    else if opcode == 0x88 then Some (insn.Mov8 operand (byte_register_at reg))
    else if opcode == 0x8a then Some (mov8_from (byte_register_at reg) operand)
    else None

-- with one of 32 bits, and a signed number after it: 81 and 83, C7 /0
unfoldable pub immediate_insn : ℕ → ℕ → Rm32 → ℤ → Option Insn
immediate_insn opcode reg operand z =
    if opcode == 0x81 || opcode == 0x83 then (operation_at reg >>= (λ op. Some (insn.AluImm op operand z)))
    else if opcode == 0xc7 && reg == 0 then Some (insn.MovImm operand z)
    else None

-- after 0F, with one of 32 or 16 bits: AF, B7, BF
unfoldable pub extended32_insn : ℕ → ℕ → Rm32 → Option Insn
extended32_insn opcode reg operand =
    if opcode == 0xaf then Some (insn.IMul (register_at reg) operand)
    else if opcode == 0xb7 then Some (insn.MovZx16 (register_at reg) operand)
    else if opcode == 0xbf then Some (insn.MovSx16 (register_at reg) operand)
    else None

-- with one of 8 bits: 90+cc, B6, BE
unfoldable pub extended8_insn : ℕ → ℕ → Rm8 → Option Insn
extended8_insn opcode reg operand =
    if nat_le 0x90 opcode && nat_lt opcode 0xa0 then Some (insn.SetCc (condition_at (opcode - 0x90)) operand)
    else if opcode == 0xb6 then Some (insn.MovZx8 (register_at reg) operand)
    else if opcode == 0xbe then Some (insn.MovSx8 (register_at reg) operand)
    else None

-- after 66: 89
unfoldable pub sixteen_insn : ℕ → ℕ → Rm32 → Option Insn
sixteen_insn opcode reg operand =
    if opcode == 0x89 then Some (insn.Mov16 operand (register_at reg))
    else None

-- ---- instructions, by what follows an opcode of so many bytes

unfoldable pub read_lone : Option Insn → Option (Insn × ℕ)
read_lone made = made >>= (λ i. Some (i, 1))

unfoldable pub read_with_byte : (ℕ → Option Insn) → List ℕ → Option (Insn × ℕ)
read_with_byte make bytes = do
  n ← read_byte bytes
  i ← make n
  Some (i, 2)

unfoldable pub read_with_signed : ℕ → ℕ → (ℤ → Option Insn) → List ℕ → Option (Insn × ℕ)
read_with_signed opcode_size size make bytes = do
  z ← read_signed size bytes
  i ← make z
  Some (i, opcode_size + size)

unfoldable pub read_with32 : ℕ → (ℕ → Rm32 → Option Insn) → List ℕ → Option (Insn × ℕ)
read_with32 opcode_size make bytes = do
  f ← read_fields32 bytes
  i ← make f.0 f.1
  Some (i, opcode_size + f.2)

unfoldable pub read_with8 : ℕ → (ℕ → Rm8 → Option Insn) → List ℕ → Option (Insn × ℕ)
read_with8 opcode_size make bytes = do
  f ← read_fields8 bytes
  i ← make f.0 f.1
  Some (i, opcode_size + f.2)

unfoldable pub read_immediate : ℕ → (ℕ → Rm32 → ℤ → Option Insn) → List ℕ → Option (Insn × ℕ)
read_immediate size make bytes = do
  f ← read_fields32 bytes
  z ← read_signed size (drop f.2 bytes)
  i ← make f.0 f.1 z
  Some (i, 1 + f.2 + size)

unfoldable pub read_shift : List ℕ → Option (Insn × ℕ)
read_shift bytes = do
  f ← read_fields32 bytes
  n ← read_byte (drop f.2 bytes)
  op ← shift_at f.0
  Some (insn.ShiftImm op f.1 n, 2 + f.2)

-- ---- the map of the opcodes

-- after 0F
unfoldable pub read_extended : ℕ → List ℕ → Option (Insn × ℕ)
read_extended opcode rest =
    if opcode == 0x0b then Some (insn.Ud2, 2)
    else if nat_le 0x80 opcode && nat_lt opcode 0x90
    then read_with_signed 2 4 (λ z. Some (insn.Jcc (condition_at (opcode - 0x80)) z)) rest
    else if nat_le 0x90 opcode && nat_lt opcode 0xa0 || opcode == 0xb6 || opcode == 0xbe
    then read_with8 2 (extended8_insn opcode) rest
    else if opcode == 0xaf || opcode == 0xb7 || opcode == 0xbf then read_with32 2 (extended32_insn opcode) rest
    else None

-- after 66
unfoldable pub read_sixteen : List ℕ → Option (Insn × ℕ)
read_sixteen [] = None
read_sixteen (opcode ∷ rest) = read_with32 2 (sixteen_insn opcode) rest

unfoldable pub read_two_byte : List ℕ → Option (Insn × ℕ)
read_two_byte [] = None
read_two_byte (opcode ∷ rest) = read_extended opcode rest

-- the opcodes after which ModRM follows and nothing else
abbrev pub has_fields32 : ℕ → Bool
has_fields32 opcode =
    nat_lt opcode 0x40 || opcode == 0x85 || opcode == 0x87 || opcode == 0x89 || opcode == 0x8b || opcode == 0x8d
    || opcode == 0xd3 || opcode == 0xf7 || opcode == 0xff

abbrev pub has_fields8 : ℕ → Bool
has_fields8 opcode = opcode == 0x86 || opcode == 0x88 || opcode == 0x8a

-- after which a signed number of four bytes follows, or of one, or an unsigned byte
abbrev pub has_long : ℕ → Bool
has_long opcode = opcode == 0x68 || nat_le 0xb8 opcode && nat_lt opcode 0xc0 || opcode == 0xe8 || opcode == 0xe9

abbrev pub has_short : ℕ → Bool
has_short opcode = nat_le 0x70 opcode && nat_lt opcode 0x80 || opcode == 0xeb

abbrev pub has_byte : ℕ → Bool
has_byte opcode = nat_le 0xb0 opcode && nat_lt opcode 0xb8 || opcode == 0xcd

-- an opcode: 0F and 66 lead to a second one; 81, 83 and C7 have ModRM and a number, and C1 ModRM and a count
unfoldable pub read_opcode : ℕ → List ℕ → Option (Insn × ℕ)
read_opcode opcode rest =
    if opcode == 0x0f then read_two_byte rest
    else if opcode == 0x66 then read_sixteen rest
    else if has_fields32 opcode then read_with32 1 (fields32_insn opcode) rest
    else if has_fields8 opcode then read_with8 1 (fields8_insn opcode) rest
    else if opcode == 0x81 || opcode == 0xc7 then read_immediate 4 (immediate_insn opcode) rest
    else if opcode == 0x83 then read_immediate 1 (immediate_insn opcode) rest
    else if opcode == 0xc1 then read_shift rest
    else if has_long opcode then read_with_signed 1 4 (long_insn opcode) rest
    else if has_short opcode then read_with_signed 1 1 (short_insn opcode) rest
    else if has_byte opcode then read_with_byte (byte_insn opcode) rest
    else read_lone (lone_insn opcode)

-- the instruction that begins the bytes, and the length of its spelling
unfoldable pub read_insn : List ℕ → Option (Insn × ℕ)
read_insn [] = None
read_insn (opcode ∷ rest) = read_opcode opcode rest
