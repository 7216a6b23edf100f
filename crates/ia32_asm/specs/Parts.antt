-- What an instruction is made of: an operand in a register or in memory, and a signed number.
use Rattle.std.specs.Prelude.{◌≡◌, ◌≢◌, ⊤, ℕ, ◌^◌, ℤ, Option, Some, None}
use Rattle.std.specs.Int.{w32}
use Rattle.std.specs.Int.RustNames.{FitsSigned}
use Rattle.ia32_insn.specs.Registers.{number32}
use Rattle.ia32_insn.specs.declared.register_names.Reg32.{Reg32}
use Rattle.ia32_insn.specs.declared.insn.Insn.{Insn}
use Rattle.ia32_insn.specs.declared.insn.Insn.TheVariants as insn
use Rattle.ia32_insn.specs.Spelling.{Operand, InRegister, InMemory, operand32, operand8}
use Rattle.ia32_insn.specs.Preferred.{scale_bits}

-- the operand has P, and the number Q
abbrev pub Parts : (Operand → Type 0) → (ℤ → Type 0) → Insn → Type 0
Parts P Q (insn.Mov operand r) = P (operand32 operand)
Parts P Q (insn.MovLoad r m) = P (InMemory m)
Parts P Q (insn.MovImm operand z) = P (operand32 operand) × Q z
Parts P Q (insn.Mov8 operand r) = P (operand8 operand)
Parts P Q (insn.Mov8Load r m) = P (InMemory m)
Parts P Q (insn.Mov8Imm r n) = ⊤
Parts P Q (insn.Mov16 operand r) = P (operand32 operand)
Parts P Q (insn.MovZx8 r operand) = P (operand8 operand)
Parts P Q (insn.MovZx16 r operand) = P (operand32 operand)
Parts P Q (insn.MovSx8 r operand) = P (operand8 operand)
Parts P Q (insn.MovSx16 r operand) = P (operand32 operand)
Parts P Q (insn.Xchg8 operand r) = P (operand8 operand)
Parts P Q (insn.Xchg operand r) = P (operand32 operand)
Parts P Q (insn.Lea r m) = P (InMemory m)
Parts P Q (insn.Alu op operand r) = P (operand32 operand)
Parts P Q (insn.AluLoad op r m) = P (InMemory m)
Parts P Q (insn.AluImm op operand z) = P (operand32 operand) × Q z
Parts P Q (insn.Test operand r) = P (operand32 operand)
Parts P Q (insn.IMul r operand) = P (operand32 operand)
Parts P Q (insn.Not operand) = P (operand32 operand)
Parts P Q (insn.Neg operand) = P (operand32 operand)
Parts P Q (insn.Div operand) = P (operand32 operand)
Parts P Q (insn.IDiv operand) = P (operand32 operand)
Parts P Q insn.Cdq = ⊤
Parts P Q (insn.ShiftCl op operand) = P (operand32 operand)
Parts P Q (insn.ShiftImm op operand n) = P (operand32 operand)
Parts P Q (insn.Push operand) = P (operand32 operand)
Parts P Q (insn.PushImm z) = Q z
Parts P Q (insn.Pop r) = ⊤
Parts P Q (insn.Call distance) = Q distance
Parts P Q insn.Ret = ⊤
Parts P Q insn.Leave = ⊤
Parts P Q (insn.Jmp distance) = Q distance
Parts P Q (insn.Jcc c distance) = Q distance
Parts P Q (insn.SetCc c operand) = P (operand8 operand)
Parts P Q (insn.Int n) = ⊤
Parts P Q insn.Ud2 = ⊤
Parts P Q insn.Nop = ⊤

-- a displacement is a number of 32 bits
abbrev pub IsOperand : Operand → Type 0
IsOperand (InRegister number) = ⊤
IsOperand (InMemory m) = FitsSigned w32 m.disp

-- every displacement, immediate and distance is one, as its type has it
abbrev pub IsInRange : Insn → Type 0
IsInRange i = Parts IsOperand (λ z. FitsSigned w32 z) i

-- an index isn't ESP, and is taken 1, 2, 4 or 8 times
abbrev pub IsIndex : Option (Reg32 × ℕ) → Type 0
IsIndex None = ⊤
IsIndex (Some index) = (number32 index.0 ≢ 4) × (2 ^ scale_bits index.1 ≡ index.1)

abbrev pub HasIndex : Operand → Type 0
HasIndex (InRegister number) = ⊤
HasIndex (InMemory m) = IsIndex m.index

abbrev pub IsIndexed : Insn → Type 0
IsIndexed i = Parts HasIndex (λ z. ⊤) i
