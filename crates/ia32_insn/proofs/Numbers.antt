-- The registers, conditions and operations have their numbers.
use Rattle.std.specs.Prelude.{◌≡◌, ℕ, zero, suc, ◌<◌, Some, IfSome}
use Rattle.std.proofs.Common.{refl, arith}
use Rattle.ia32_insn.specs.Registers.{number32, number8}
use Rattle.ia32_insn.specs.declared.register_names.Reg32.{Reg32}
use Rattle.ia32_insn.specs.declared.register_names.Reg32.TheVariants.{Eax, Ecx, Edx, Ebx, Esp, Ebp, Esi, Edi}
use Rattle.ia32_insn.specs.declared.register_names.Reg8.{Reg8}
use Rattle.ia32_insn.specs.declared.register_names.Reg8.TheVariants.{Al, Cl, Dl, Bl, Ah, Ch, Dh, Bh}
use Rattle.ia32_insn.specs.declared.insn.AluOp.{AluOp}
use Rattle.ia32_insn.specs.declared.insn.AluOp.TheVariants as alu
use Rattle.ia32_insn.specs.declared.insn.ShiftOp.{ShiftOp}
use Rattle.ia32_insn.specs.declared.insn.ShiftOp.TheVariants as shift
use Rattle.ia32_insn.specs.declared.insn.Cond.{Cond}
use Rattle.ia32_insn.specs.declared.insn.Cond.TheVariants as cond
use Rattle.ia32_insn.specs.Spelling.{alu_number, shift_number, cond_number}
use Rattle.ia32_insn.specs.Reading.{register_at, byte_register_at, condition_at, operation_at, shift_at}

-- the register with the number of a register is that register
pub register_at-number : (r : Reg32) → register_at (number32 r) ≡ r
unfolding register_at
register_at-number Eax = refl
register_at-number Ecx = refl
register_at-number Edx = refl
register_at-number Ebx = refl
register_at-number Esp = refl
register_at-number Ebp = refl
register_at-number Esi = refl
register_at-number Edi = refl

-- and it has that number
pub number-register_at : (n : ℕ) → n < 8 → number32 (register_at n) ≡ n
unfolding register_at
number-register_at zero h = refl
number-register_at (suc zero) h = refl
number-register_at (suc (suc zero)) h = refl
number-register_at (suc (suc (suc zero))) h = refl
number-register_at (suc (suc (suc (suc zero)))) h = refl
number-register_at (suc (suc (suc (suc (suc zero))))) h = refl
number-register_at (suc (suc (suc (suc (suc (suc zero)))))) h = refl
number-register_at (suc (suc (suc (suc (suc (suc (suc zero))))))) h = refl
number-register_at (suc (suc (suc (suc (suc (suc (suc (suc n)))))))) h = absurd (omega arith)

pub byte_register_at-number : (r : Reg8) → byte_register_at (number8 r) ≡ r
unfolding byte_register_at
byte_register_at-number Al = refl
byte_register_at-number Cl = refl
byte_register_at-number Dl = refl
byte_register_at-number Bl = refl
byte_register_at-number Ah = refl
byte_register_at-number Ch = refl
byte_register_at-number Dh = refl
byte_register_at-number Bh = refl

pub number-byte_register_at : (n : ℕ) → n < 8 → number8 (byte_register_at n) ≡ n
unfolding byte_register_at
number-byte_register_at zero h = refl
number-byte_register_at (suc zero) h = refl
number-byte_register_at (suc (suc zero)) h = refl
number-byte_register_at (suc (suc (suc zero))) h = refl
number-byte_register_at (suc (suc (suc (suc zero)))) h = refl
number-byte_register_at (suc (suc (suc (suc (suc zero))))) h = refl
number-byte_register_at (suc (suc (suc (suc (suc (suc zero)))))) h = refl
number-byte_register_at (suc (suc (suc (suc (suc (suc (suc zero))))))) h = refl
number-byte_register_at (suc (suc (suc (suc (suc (suc (suc (suc n)))))))) h = absurd (omega arith)

-- the condition with the number of a condition is that condition, and it has that number
pub condition_at-number : (c : Cond) → condition_at (cond_number c) ≡ c
unfolding condition_at
condition_at-number cond.O = refl
condition_at-number cond.No = refl
condition_at-number cond.B = refl
condition_at-number cond.Ae = refl
condition_at-number cond.E = refl
condition_at-number cond.Ne = refl
condition_at-number cond.Be = refl
condition_at-number cond.A = refl
condition_at-number cond.S = refl
condition_at-number cond.Ns = refl
condition_at-number cond.P = refl
condition_at-number cond.Np = refl
condition_at-number cond.L = refl
condition_at-number cond.Ge = refl
condition_at-number cond.Le = refl
condition_at-number cond.G = refl

-- the number of a condition of at least eight
upper_condition : (n : ℕ) → n < 8 → cond_number (condition_at (suc (suc (suc (suc (suc (suc (suc (suc n)))))))))
    ≡ suc (suc (suc (suc (suc (suc (suc (suc n)))))))
unfolding condition_at
upper_condition zero h = refl
upper_condition (suc zero) h = refl
upper_condition (suc (suc zero)) h = refl
upper_condition (suc (suc (suc zero))) h = refl
upper_condition (suc (suc (suc (suc zero)))) h = refl
upper_condition (suc (suc (suc (suc (suc zero))))) h = refl
upper_condition (suc (suc (suc (suc (suc (suc zero)))))) h = refl
upper_condition (suc (suc (suc (suc (suc (suc (suc zero))))))) h = refl
upper_condition (suc (suc (suc (suc (suc (suc (suc (suc n)))))))) h = absurd (omega arith)

pub number-condition_at : (n : ℕ) → n < 16 → cond_number (condition_at n) ≡ n
unfolding condition_at
number-condition_at zero h = refl
number-condition_at (suc zero) h = refl
number-condition_at (suc (suc zero)) h = refl
number-condition_at (suc (suc (suc zero))) h = refl
number-condition_at (suc (suc (suc (suc zero)))) h = refl
number-condition_at (suc (suc (suc (suc (suc zero))))) h = refl
number-condition_at (suc (suc (suc (suc (suc (suc zero)))))) h = refl
number-condition_at (suc (suc (suc (suc (suc (suc (suc zero))))))) h = refl
number-condition_at (suc (suc (suc (suc (suc (suc (suc (suc n)))))))) h = upper_condition n (omega arith)

-- the operation with the number of an operation is that operation, and it has that number
pub operation_at-number : (op : AluOp) → operation_at (alu_number op) ≡ Some op
unfolding operation_at
operation_at-number alu.Add = refl
operation_at-number alu.Or = refl
operation_at-number alu.And = refl
operation_at-number alu.Sub = refl
operation_at-number alu.Xor = refl
operation_at-number alu.Cmp = refl

pub number-operation_at : (n : ℕ) → n < 8 → IfSome (operation_at n) (λ op. alu_number op ≡ n)
unfolding operation_at
number-operation_at zero h = refl
number-operation_at (suc zero) h = refl
number-operation_at (suc (suc zero)) h = tt
number-operation_at (suc (suc (suc zero))) h = tt
number-operation_at (suc (suc (suc (suc zero)))) h = refl
number-operation_at (suc (suc (suc (suc (suc zero))))) h = refl
number-operation_at (suc (suc (suc (suc (suc (suc zero)))))) h = refl
number-operation_at (suc (suc (suc (suc (suc (suc (suc zero))))))) h = refl
number-operation_at (suc (suc (suc (suc (suc (suc (suc (suc n)))))))) h = absurd (omega arith)

-- so for the shifts
pub shift_at-number : (op : ShiftOp) → shift_at (shift_number op) ≡ Some op
unfolding shift_at
shift_at-number shift.Shl = refl
shift_at-number shift.Shr = refl
shift_at-number shift.Sar = refl

pub number-shift_at : (n : ℕ) → n < 8 → IfSome (shift_at n) (λ op. shift_number op ≡ n)
unfolding shift_at
number-shift_at zero h = tt
number-shift_at (suc zero) h = tt
number-shift_at (suc (suc zero)) h = tt
number-shift_at (suc (suc (suc zero))) h = tt
number-shift_at (suc (suc (suc (suc zero)))) h = refl
number-shift_at (suc (suc (suc (suc (suc zero))))) h = refl
number-shift_at (suc (suc (suc (suc (suc (suc zero)))))) h = tt
number-shift_at (suc (suc (suc (suc (suc (suc (suc zero))))))) h = refl
number-shift_at (suc (suc (suc (suc (suc (suc (suc (suc n)))))))) h = absurd (omega arith)
