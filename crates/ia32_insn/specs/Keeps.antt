-- What an instruction leaves as it was, by its kind.
use Rattle.std.specs.Prelude.{◌≡◌, ℕ, ◌+◌, ◌≤◌, ◌⊎◌, Bool, true, false, List, map}
use Rattle.std.specs.List.{AllByRecursion}
use Rattle.ia32_insn.specs.declared.operand.Rm32.{Rm32}
use Rattle.ia32_insn.specs.declared.operand.Rm32.TheVariants as rm
use Rattle.ia32_insn.specs.declared.operand.Rm8.{Rm8}
use Rattle.ia32_insn.specs.declared.operand.Rm8.TheVariants as rm8
use Rattle.ia32_insn.specs.declared.insn.Insn.{Insn}
use Rattle.ia32_insn.specs.declared.insn.Insn.TheVariants as insn
use Rattle.ia32_insn.specs.State.{State, Area, code_at, shape_of}

-- an area is written or run, but not both
abbrev pub IsCodeOrData : Area → Type 0
IsCodeOrData area = area.writable ≡ true → area.runnable ≡ false

-- a piece of n bytes and one of m have no byte in common
abbrev pub AreDisjoint : ℕ → ℕ → ℕ → ℕ → Type 0
AreDisjoint a n b m = (a + n ≤ b) ⊎ (b + m ≤ a)

-- where the areas are, how long, and what may be done there; the code, where no area is both written and run
pub record KeepsAreas (old new : List Area) : Type 0 where
  pub shapes : map shape_of new ≡ map shape_of old
  pub code : AllByRecursion IsCodeOrData old → (address : ℕ) → code_at address new ≡ code_at address old

-- all but memory
pub record KeepsAllButMemory (old new : State) : Type 0 where
  pub registers : new.registers ≡ old.registers
  pub flags : new.flags ≡ old.flags
  pub eip : new.eip ≡ old.eip
  pub left : new.left ≡ old.left
  pub taken : new.taken ≡ old.taken
  pub written : new.written ≡ old.written

-- the input and the output
pub record KeepsStreams (old new : State) : Type 0 where
  pub left : new.left ≡ old.left
  pub taken : new.taken ≡ old.taken
  pub written : new.written ≡ old.written

abbrev pub in_memory32 : Rm32 → Bool
in_memory32 (rm.Reg r) = false
in_memory32 (rm.Mem m) = true

abbrev pub in_memory8 : Rm8 → Bool
in_memory8 (rm8.Reg r) = false
in_memory8 (rm8.Mem m) = true

-- the instructions that may write memory: those whose destination is there, those that push, and INT
abbrev pub may_write : Insn → Bool
may_write (insn.Mov operand r) = in_memory32 operand
may_write (insn.MovImm operand z) = in_memory32 operand
may_write (insn.Mov8 operand r) = in_memory8 operand
may_write (insn.Mov16 operand r) = in_memory32 operand
may_write (insn.Xchg8 operand r) = in_memory8 operand
may_write (insn.Xchg operand r) = in_memory32 operand
may_write (insn.Alu op operand r) = in_memory32 operand
may_write (insn.AluImm op operand z) = in_memory32 operand
may_write (insn.Not operand) = in_memory32 operand
may_write (insn.Neg operand) = in_memory32 operand
may_write (insn.ShiftCl op operand) = in_memory32 operand
may_write (insn.ShiftImm op operand n) = in_memory32 operand
may_write (insn.Push operand) = true
may_write (insn.PushImm z) = true
may_write (insn.Call distance) = true
may_write (insn.SetCc c operand) = in_memory8 operand
may_write (insn.Int n) = true
may_write _ = false

-- the one that may read input and write output
abbrev pub may_call : Insn → Bool
may_call (insn.Int n) = true
may_call _ = false
