-- What one instruction does (Intel manual, volume 2, the operation of each instruction), and the system calls
-- of `int 0x80` of Linux on i386.
use Rattle.std.specs.Prelude.{ℕ, ℤ, ◌+◌, ◌*◌, ◌%◌, ◌^◌, ◌&&◌, ◌==◌, Bool, true, false, List, [], ◌∷◌, ◌++◌, Option}
use Rattle.std.specs.Prelude.{Some, None, Result, Ok, Err, slice_index, slice_set, if◌then◌else◌}
use Rattle.std.specs.Int.{w32, cast_unsigned}
use Rattle.byteorder.specs.Endian.{little_number, little_bytes}
use Rattle.pcc_base.specs.Outcome.{End, Ended, Trapped, Stopped}
use Rattle.pcc_base.specs.declared.run.Stop.TheVariants.{Access, Flags as UnknownFlags, Call as NoCall}
use Rattle.pcc_base.specs.declared.run.Trap.TheVariants.{Divide, Check}
use Rattle.ia32_insn.specs.Registers.{register, with_register, byte_place}
use Rattle.ia32_insn.specs.declared.register_names.Reg32.{Reg32}
use Rattle.ia32_insn.specs.declared.register_names.Reg32.TheVariants.{Eax, Ecx, Edx, Ebx, Esp, Ebp}
use Rattle.ia32_insn.specs.declared.register_names.Reg8.{Reg8}
use Rattle.ia32_insn.specs.declared.register_names.Reg8.TheVariants.{Cl}
use Rattle.ia32_insn.specs.declared.flags.Flags.{Flags}
use Rattle.ia32_insn.specs.declared.operand.Mem.{Mem}
use Rattle.ia32_insn.specs.declared.operand.Rm32.{Rm32}
use Rattle.ia32_insn.specs.declared.operand.Rm32.TheVariants as rm
use Rattle.ia32_insn.specs.declared.operand.Rm8.{Rm8}
use Rattle.ia32_insn.specs.declared.operand.Rm8.TheVariants as rm8
use Rattle.ia32_insn.specs.declared.insn.AluOp.{AluOp}
use Rattle.ia32_insn.specs.declared.insn.AluOp.TheVariants as alu
use Rattle.ia32_insn.specs.declared.insn.Cond.{Cond}
use Rattle.ia32_insn.specs.declared.insn.Insn.{Insn}
use Rattle.ia32_insn.specs.declared.insn.Insn.TheVariants as insn
use Rattle.ia32_insn.specs.Arithmetic.{sum, difference, alu_value, alu_flags, shift_value, product, complement}
use Rattle.ia32_insn.specs.Arithmetic.{negation, divided, signed_divided, sign_word, extended8, extended16, with_low16}
use Rattle.ia32_insn.specs.Arithmetic.{holds}
use Rattle.ia32_insn.specs.State.{State, at_address, bytes_at, may_store, stored}

-- what a step leads to: the next state, or an end
pub data Moved : Type 0 where
  Moves : (state : State) → Moved
  Halts : (end : End) → Moved

-- A part of an instruction gives something, or the run ends there. What follows it:
abbrev pub and_then : {X Y : Type 0} → Result X End → (X → Result Y End) → Result Y End
and_then (Ok x) next = next x
and_then (Err end) next = Err end

-- what there is, or the end where there is nothing
abbrev pub or_end : {X : Type 0} → Option X → End → Result X End
or_end None end = Err end
or_end (Some x) end = Ok x

-- ---- registers and flags

abbrev pub word_of : Reg32 → State → ℕ
word_of r s = register r s.registers

abbrev pub with_word : Reg32 → ℕ → State → State
with_word r value s = record s { registers = with_register r value s.registers }

abbrev pub byte_of : Reg8 → State → ℕ
byte_of r s = slice_index s.registers (byte_place r)

abbrev pub with_byte : Reg8 → ℕ → State → State
with_byte r value s = record s { registers = slice_set s.registers (byte_place r) value }

abbrev pub with_flags : Option Flags → State → State
with_flags flags s = record s { flags = flags }

-- ---- memory

-- the value of a register that may be wanting, and that of an index times its scale
abbrev pub base_value : Option Reg32 → State → ℕ
base_value None s = 0
base_value (Some r) s = word_of r s

abbrev pub index_value : Option (Reg32 × ℕ) → State → ℕ
index_value None s = 0
index_value (Some index) s = word_of index.0 s * index.1

-- the address of a memory operand, wrapped at 32 bits (volume 1, section 3.7.5)
abbrev pub address_of : Mem → State → ℕ
address_of m s = (base_value m.base s + index_value m.index s + cast_unsigned w32 m.disp) % 2 ^ 32

-- no area allows the access at this address
abbrev pub denied : ℕ → State → End
denied address s = Stopped (Access address) s.eip

-- the n bytes from an address on
abbrev pub load_bytes : ℕ → ℕ → State → Result (List ℕ) End
load_bytes n address s = or_end (bytes_at n address s.memory) (denied address s)

-- the number in n bytes, the lowest first
abbrev pub load : ℕ → ℕ → State → Result ℕ End
load n address s = and_then (load_bytes n address s) (λ bytes. Ok (little_number n bytes))

abbrev pub store_bytes : ℕ → List ℕ → State → Result State End
store_bytes address bytes s =
    and_then (or_end (stored address bytes s.memory) (denied address s)) (λ memory. Ok (record s { memory = memory }))

-- the lowest n bytes of a number, the lowest first
abbrev pub store : ℕ → ℕ → ℕ → State → Result State End
store n address value s = store_bytes address (little_bytes n value) s

-- ---- operands

abbrev pub read32 : Rm32 → State → Result ℕ End
read32 (rm.Reg r) s = Ok (word_of r s)
read32 (rm.Mem m) s = load 4 (address_of m s) s

abbrev pub write32 : Rm32 → ℕ → State → Result State End
write32 (rm.Reg r) value s = Ok (with_word r value s)
write32 (rm.Mem m) value s = store 4 (address_of m s) value s

abbrev pub read16 : Rm32 → State → Result ℕ End
read16 (rm.Reg r) s = Ok (word_of r s % 2 ^ 16)
read16 (rm.Mem m) s = load 2 (address_of m s) s

abbrev pub write16 : Rm32 → ℕ → State → Result State End
write16 (rm.Reg r) value s = Ok (with_word r (with_low16 value (word_of r s)) s)
write16 (rm.Mem m) value s = store 2 (address_of m s) value s

abbrev pub read8 : Rm8 → State → Result ℕ End
read8 (rm8.Reg r) s = Ok (byte_of r s)
read8 (rm8.Mem m) s = load 1 (address_of m s) s

abbrev pub write8 : Rm8 → ℕ → State → Result State End
write8 (rm8.Reg r) value s = Ok (with_byte r value s)
write8 (rm8.Mem m) value s = store 1 (address_of m s) value s

-- ---- parts of instructions

-- the result of an operation, which CMP doesn't write
abbrev pub write_result : AluOp → Rm32 → ℕ → State → Result State End
write_result alu.Cmp operand value s = Ok s
write_result op operand value s = write32 operand value s

-- an operation on a first operand that is read and written, and a second that has this value
abbrev pub operate : AluOp → Rm32 → ℕ → State → Result State End
operate op operand b s =
    and_then (read32 operand s)
    (λ a. and_then (write_result op operand (alu_value op a b) s)
    (λ t. Ok (with_flags (Some (alu_flags op a b)) t)))

-- an operand is changed, and the flags are unknown after it
abbrev pub change : (ℕ → ℕ) → Rm32 → State → Result State End
change f operand s = and_then (read32 operand s) (λ a. and_then (write32 operand (f a) s) (λ t. Ok (with_flags None t)))

-- the quotient to EAX and the remainder to EDX, or the trap Divide
abbrev pub take_quotient : Option (ℕ × ℕ) → State → Result State End
take_quotient None s = Err (Trapped Divide)
take_quotient (Some result) s = Ok (with_flags None (with_word Edx result.1 (with_word Eax result.0 s)))

-- EDX:EAX
abbrev pub dividend : State → ℕ
dividend s = word_of Edx s * 2 ^ 32 + word_of Eax s

-- four bytes on the stack, below ESP
abbrev pub push : ℕ → State → Result State End
push value s =
    let top : ℕ = difference (word_of Esp s) 4 in
    and_then (store 4 top value s) (λ t. Ok (with_word Esp top t))

-- the four bytes at ESP, which is then four higher
abbrev pub pop : State → Result (ℕ × State) End
pop s = and_then (load 4 (word_of Esp s) s) (λ value. Ok (value, with_word Esp (sum (word_of Esp s) 4) s))

-- what a condition gives where it is known
abbrev pub decided : Cond → State → Result Bool End
decided c s = or_end (holds c s.flags) (Stopped UnknownFlags s.eip)

abbrev pub bit : Bool → ℕ
bit true = 1
bit false = 0

-- an address so far from another
abbrev pub distant : ℕ → ℤ → ℕ
distant address distance = address + cast_unsigned w32 distance

-- ---- system calls

-- one byte of the input to an address, and 1 to EAX; 0 at the input's end
abbrev pub take_byte : ℕ → List ℕ → State → Result State End
take_byte address [] s = Ok (with_word Eax 0 s)
take_byte address (byte ∷ left) s =
    and_then (store_bytes address (byte ∷ []) s)
    (λ t. Ok (with_word Eax 1 (record t { left = left; taken = t.taken + 1 })))

-- `read` of so many bytes to an address. All of them are checked before one is taken.
abbrev pub read_call : ℕ → ℕ → State → Result State End
read_call count address s =
    if count == 0 then Ok (with_word Eax 0 s) else if may_store count address s.memory then take_byte address s.left s
    else Err (denied address s)

-- `write` of so many bytes from an address. All of them are checked before one is written.
abbrev pub write_call : ℕ → ℕ → State → Result State End
write_call count address s =
    if count == 0 then Ok (with_word Eax 0 s)
    else and_then (load_bytes count address s)
    (λ bytes. Ok (with_word Eax count (record s { written = s.written ++ bytes })))

-- the system calls that there are, and any other one
pub data SystemCall : Type 0 where
  -- end with the low byte of this status
  Exit : (status : ℕ) → SystemCall
  -- read from the input, which is file 0
  Read : SystemCall
  -- write to the output, which is file 1
  Write : SystemCall
  Other : SystemCall

-- the call with this number in EAX, and a status or the number of a file in EBX (Linux, `syscall_32.tbl`)
abbrev pub call_of : ℕ → ℕ → SystemCall
call_of number first =
    if number == 1 then Exit first
    else if number == 3 && first == 0 then Read
    else if number == 4 && first == 1 then Write
    else Other

-- what a call does, with an address in ECX and a number of bytes in EDX
abbrev pub make_call : SystemCall → State → Result State End
make_call (Exit status) s = Err (Ended (status % 256))
make_call Read s = read_call (word_of Edx s) (word_of Ecx s) s
make_call Write s = write_call (word_of Edx s) (word_of Ecx s) s
make_call Other s = Err (Stopped NoCall s.eip)

abbrev pub system_call : State → Result State End
system_call s = make_call (call_of (word_of Eax s) (word_of Ebx s)) s

abbrev pub interrupt : ℕ → State → Result State End
interrupt n s = if n == 0x80 then system_call s else Err (Stopped NoCall s.eip)

-- ---- instructions

-- what an instruction does to all but EIP, where the next one in memory is at the address `after`
abbrev pub effect : Insn → ℕ → State → Result State End
-- MOV
effect (insn.Mov operand r) after s = write32 operand (word_of r s) s
effect (insn.MovLoad r m) after s = and_then (read32 (rm.Mem m) s) (λ value. Ok (with_word r value s))
effect (insn.MovImm operand z) after s = write32 operand (cast_unsigned w32 z) s
effect (insn.Mov8 operand r) after s = write8 operand (byte_of r s) s
effect (insn.Mov8Load r m) after s = and_then (read8 (rm8.Mem m) s) (λ value. Ok (with_byte r value s))
effect (insn.Mov8Imm r n) after s = Ok (with_byte r n s)
effect (insn.Mov16 operand r) after s = write16 operand (word_of r s % 2 ^ 16) s
-- MOVZX, MOVSX
effect (insn.MovZx8 r operand) after s = and_then (read8 operand s) (λ value. Ok (with_word r value s))
effect (insn.MovZx16 r operand) after s = and_then (read16 operand s) (λ value. Ok (with_word r value s))
effect (insn.MovSx8 r operand) after s = and_then (read8 operand s) (λ value. Ok (with_word r (extended8 value) s))
effect (insn.MovSx16 r operand) after s = and_then (read16 operand s) (λ value. Ok (with_word r (extended16 value) s))
-- XCHG
effect (insn.Xchg8 operand r) after s =
    and_then (read8 operand s) (λ value. and_then (write8 operand (byte_of r s) s) (λ t. Ok (with_byte r value t)))
effect (insn.Xchg operand r) after s =
    and_then (read32 operand s) (λ value. and_then (write32 operand (word_of r s) s) (λ t. Ok (with_word r value t)))
-- LEA
effect (insn.Lea r m) after s = Ok (with_word r (address_of m s) s)
-- ADD, OR, AND, SUB, XOR, CMP
effect (insn.Alu op operand r) after s = operate op operand (word_of r s) s
effect (insn.AluLoad op r m) after s = and_then (read32 (rm.Mem m) s) (λ value. operate op (rm.Reg r) value s)
effect (insn.AluImm op operand z) after s = operate op operand (cast_unsigned w32 z) s
-- TEST: AND without its result
effect (insn.Test operand r) after s =
    and_then (read32 operand s) (λ value. Ok (with_flags (Some (alu_flags alu.And value (word_of r s))) s))
-- IMUL, NOT, NEG, DIV, IDIV, CDQ
effect (insn.IMul r operand) after s =
    and_then (read32 operand s) (λ value. Ok (with_flags None (with_word r (product (word_of r s) value) s)))
effect (insn.Not operand) after s = and_then (read32 operand s) (λ value. write32 operand (complement value) s)
effect (insn.Neg operand) after s = change negation operand s
effect (insn.Div operand) after s = and_then (read32 operand s) (λ value. take_quotient (divided (dividend s) value) s)
effect (insn.IDiv operand) after s =
    and_then (read32 operand s) (λ value. take_quotient (signed_divided (dividend s) value) s)
effect insn.Cdq after s = Ok (with_word Edx (sign_word (word_of Eax s)) s)
-- SHL, SHR, SAR
effect (insn.ShiftCl op operand) after s = change (λ a. shift_value op a (byte_of Cl s)) operand s
effect (insn.ShiftImm op operand n) after s = change (λ a. shift_value op a n) operand s
-- PUSH, POP
effect (insn.Push operand) after s = and_then (read32 operand s) (λ value. push value s)
effect (insn.PushImm z) after s = push (cast_unsigned w32 z) s
effect (insn.Pop r) after s = and_then (pop s) (λ popped. Ok (with_word r popped.0 popped.1))
-- CALL, RET, LEAVE
effect (insn.Call distance) after s = push (after % 2 ^ 32) s
effect insn.Ret after s = and_then (pop s) (λ popped. Ok popped.1)
effect insn.Leave after s =
    and_then (load 4 (word_of Ebp s) s) (λ value. Ok (with_word Ebp value (with_word Esp (sum (word_of Ebp s) 4) s)))
-- JMP, Jcc, SETcc
effect (insn.Jmp distance) after s = Ok s
effect (insn.Jcc c distance) after s = and_then (decided c s) (λ known. Ok s)
effect (insn.SetCc c operand) after s = and_then (decided c s) (λ known. write8 operand (bit known) s)
-- INT, UD2, NOP
effect (insn.Int n) after s = interrupt n s
effect insn.Ud2 after s = Err (Trapped Check)
effect insn.Nop after s = Ok s

-- the address of the instruction that comes next
abbrev pub target : Insn → ℕ → State → Result ℕ End
target (insn.Call distance) after s = Ok (distant after distance)
target insn.Ret after s = load 4 (word_of Esp s) s
target (insn.Jmp distance) after s = Ok (distant after distance)
target (insn.Jcc c distance) after s =
    and_then (decided c s) (λ known. Ok (if known then distant after distance else after))
target _ after s = Ok after

abbrev pub moved_of : Result State End → Moved
moved_of (Ok t) = Moves t
moved_of (Err end) = Halts end

-- the instruction in this state, where the next one in memory is at the address `after`
abbrev pub perform : Insn → ℕ → State → Moved
perform i after s =
    moved_of (and_then (effect i after s) (λ t. and_then (target i after s) (λ address. Ok (at_address address t))))
