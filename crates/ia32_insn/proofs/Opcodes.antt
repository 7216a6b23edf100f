-- Opcodes that hold the number of a register, a condition or an operation: what is read after them, and which
-- instruction they make.
use Rattle.std.specs.Prelude.{◌≡◌, ℕ, ◌+◌, ◌-◌, ◌*◌, ◌/◌, ◌%◌, ◌<◌, ℤ, List, Some}
use Rattle.std.proofs.Common.{refl, arith}
use Rattle.std.proofs.lemmas.Bool.{lt-ltb}
use Rattle.std.proofs.lemmas.Bool.Decides.{nat_tests}
use Rattle.ia32_insn.specs.declared.operand.Rm32.{Rm32}
use Rattle.ia32_insn.specs.declared.operand.Rm32.TheVariants as rm
use Rattle.ia32_insn.specs.declared.operand.Rm8.{Rm8}
use Rattle.ia32_insn.specs.declared.insn.Insn.TheVariants as insn
use Rattle.ia32_insn.specs.Reading.{◌>>=◌, register_at, byte_register_at, condition_at, operation_at, lone_insn}
use Rattle.ia32_insn.specs.Reading.{byte_insn, short_insn, long_insn, alu_insn, fields32_insn, extended8_insn}
use Rattle.ia32_insn.specs.Reading.{read_lone, read_with_byte, read_with_signed, read_with32, read_with8, read_extended}
use Rattle.ia32_insn.specs.Reading.{read_opcode}

-- 50+rd, 58+rd
pub push_opcode : (k : ℕ) (rest : List ℕ) → k < 8 → read_opcode (0x50 + k) rest ≡ read_lone (lone_insn (0x50 + k))
unfolding read_opcode
push_opcode k rest h = grind (arith, nat_tests)

pub push_made : (k : ℕ) → k < 8 → lone_insn (0x50 + k) ≡ Some (insn.Push (rm.Reg (register_at k)))
unfolding lone_insn
push_made k h = grind (arith, nat_tests)

pub pop_opcode : (k : ℕ) (rest : List ℕ) → k < 8 → read_opcode (0x58 + k) rest ≡ read_lone (lone_insn (0x58 + k))
unfolding read_opcode
pop_opcode k rest h = grind (arith, nat_tests)

pub pop_made : (k : ℕ) → k < 8 → lone_insn (0x58 + k) ≡ Some (insn.Pop (register_at k))
unfolding lone_insn
pop_made k h = grind (arith, nat_tests)

-- B0+rb
pub mov8_opcode : (k : ℕ) (rest : List ℕ) → k < 8 → read_opcode (0xb0 + k) rest
    ≡ read_with_byte (byte_insn (0xb0 + k)) rest
unfolding read_opcode
mov8_opcode k rest h = grind (arith, nat_tests)

pub mov8_made : (k n : ℕ) → k < 8 → byte_insn (0xb0 + k) n ≡ Some (insn.Mov8Imm (byte_register_at k) n)
unfolding byte_insn
mov8_made k n h = grind (arith, nat_tests)

-- B8+rd
pub mov_opcode : (k : ℕ) (rest : List ℕ) → k < 8 → read_opcode (0xb8 + k) rest
    ≡ read_with_signed 1 4 (long_insn (0xb8 + k)) rest
unfolding read_opcode
mov_opcode k rest h = grind (arith, nat_tests)

pub mov_made : (k : ℕ) (z : ℤ) → k < 8 → long_insn (0xb8 + k) z ≡ Some (insn.MovImm (rm.Reg (register_at k)) z)
unfolding long_insn
mov_made k z h = grind (arith, nat_tests)

-- 70+cc
pub short_opcode : (k : ℕ) (rest : List ℕ) → k < 16 → read_opcode (0x70 + k) rest
    ≡ read_with_signed 1 1 (short_insn (0x70 + k)) rest
unfolding read_opcode
short_opcode k rest h = grind (arith, nat_tests)

pub short_made : (k : ℕ) (z : ℤ) → k < 16 → short_insn (0x70 + k) z ≡ Some (insn.Jcc (condition_at k) z)
unfolding short_insn
short_made k z h = grind (arith, nat_tests)

-- 0F 80+cc
pub near_opcode : (k : ℕ) (rest : List ℕ) → k < 16 → read_extended (0x80 + k) rest
    ≡ read_with_signed 2 4 (λ z. Some (insn.Jcc (condition_at k) z)) rest
unfolding read_extended
near_opcode k rest h =
    let same : 0x80 + k - 0x80 ≡ k = omega arith in
    rw (← same) (grind (arith, nat_tests))

-- 0F 90+cc
pub set_opcode : (k : ℕ) (rest : List ℕ) → k < 16 → read_extended (0x90 + k) rest
    ≡ read_with8 2 (extended8_insn (0x90 + k)) rest
unfolding read_extended
set_opcode k rest h = grind (arith, nat_tests)

pub set_made : (k reg : ℕ) (x : Rm8) → k < 16 → extended8_insn (0x90 + k) reg x ≡ Some (insn.SetCc (condition_at k) x)
unfolding extended8_insn
set_made k reg x h = grind (arith, nat_tests)

-- the operations of two operands, one way and the other
pub alu_opcode : (k way : ℕ) (rest : List ℕ) → k < 8 → way < 4 → read_opcode (8 * k + way) rest
    ≡ read_with32 1 (fields32_insn (8 * k + way)) rest
unfolding read_opcode
alu_opcode k way rest h w = grind (arith, nat_tests)

pub alu_made : (k way reg : ℕ) (x : Rm32) → k < 8 → way < 4 → fields32_insn (8 * k + way) reg x
    ≡ (operation_at k >>= (λ op. alu_insn way op (register_at reg) x))
unfolding fields32_insn
alu_made k way reg x h w =
    let number : (8 * k + way) / 8 ≡ k = omega arith in
    let low : (8 * k + way) % 8 ≡ way = omega arith in
    rw (lt-ltb (8 * k + way) 0x40 (omega arith), number, low) refl
