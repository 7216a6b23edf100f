-- Straight code: what instructions do one after another, wherever they stand.
use Rattle.std.specs.Prelude.{◌≡◌, ◌+◌, ◌*◌, ◌<◌, ◌≤◌, ◌⊎◌, ⊤, ℕ, List, [], ◌∷◌, Ok, slice_index}
use Rattle.ia32_insn.specs.declared.register_names.Reg32.{Reg32}
use Rattle.ia32_insn.specs.Registers.{number32}
use Rattle.ia32_insn.specs.declared.insn.Insn.{Insn}
use Rattle.ia32_insn.specs.declared.insn.Insn.TheVariants as insn
use Rattle.ia32_insn.specs.declared.item.Item.{Item}
use Rattle.ia32_insn.specs.declared.item.Item.TheVariants as item
use Rattle.ia32_insn.specs.State.{State, at_address}
use Rattle.ia32_insn.specs.Meaning.{load, effect}
use Rattle.ia32_rows.specs.Sites.{Site, SoundAt}

-- ---- one after another

-- The instruction goes on to the next one in memory: it is no jump, no call of code or of the system, no return and no
-- trap. Nor is it NOP, at which a statement is visited.
abbrev pub IsStraight : Insn → Type 0
IsStraight (insn.Mov operand r) = ⊤
IsStraight (insn.MovLoad r m) = ⊤
IsStraight (insn.MovImm operand z) = ⊤
IsStraight (insn.Mov8 operand r) = ⊤
IsStraight (insn.Mov8Load r m) = ⊤
IsStraight (insn.Mov8Imm r n) = ⊤
IsStraight (insn.Mov16 operand r) = ⊤
IsStraight (insn.MovZx8 r operand) = ⊤
IsStraight (insn.MovZx16 r operand) = ⊤
IsStraight (insn.MovSx8 r operand) = ⊤
IsStraight (insn.MovSx16 r operand) = ⊤
IsStraight (insn.Xchg8 operand r) = ⊤
IsStraight (insn.Xchg operand r) = ⊤
IsStraight (insn.Lea r m) = ⊤
IsStraight (insn.Alu op operand r) = ⊤
IsStraight (insn.AluLoad op r m) = ⊤
IsStraight (insn.AluImm op operand z) = ⊤
IsStraight (insn.Test operand r) = ⊤
IsStraight (insn.IMul r operand) = ⊤
IsStraight (insn.Not operand) = ⊤
IsStraight (insn.Neg operand) = ⊤
IsStraight (insn.Div operand) = ⊤
IsStraight (insn.IDiv operand) = ⊤
IsStraight insn.Cdq = ⊤
IsStraight (insn.ShiftCl op operand) = ⊤
IsStraight (insn.ShiftImm op operand n) = ⊤
IsStraight (insn.Push operand) = ⊤
IsStraight (insn.PushImm z) = ⊤
IsStraight (insn.Pop r) = ⊤
IsStraight (insn.Call distance) = ⊥
IsStraight insn.Ret = ⊥
IsStraight insn.Leave = ⊤
IsStraight (insn.Jmp distance) = ⊥
IsStraight (insn.Jcc c distance) = ⊥
IsStraight (insn.SetCc c operand) = ⊤
IsStraight (insn.Int n) = ⊥
IsStraight insn.Ud2 = ⊥
IsStraight insn.Nop = ⊥

-- the instruction makes the second state of the first, whatever EIP is, and the second is sound too
pub record Makes (site : Site) (i : Insn) (s t : State) : Type 0 where
  pub straight : IsStraight i
  pub does : (address : ℕ) → effect i 0 (at_address address s) ≡ Ok (at_address address t)
  pub sound : SoundAt site t

-- the items are straight code that leads from the first state to the second
abbrev pub Leads : Site → List Item → State → State → Type 0
Leads site [] s t = s ≡ t
Leads site (item.Plain i ∷ items) s t = (m : State) × Makes site i s m × Leads site items m t
Leads site (item.Label l ∷ items) s t = ⊥
Leads site (item.Point p ∷ items) s t = ⊥
Leads site (item.JumpTo l ∷ items) s t = ⊥
Leads site (item.JumpIf c l ∷ items) s t = ⊥
Leads site (item.CallFunction f ∷ items) s t = ⊥
Leads site (item.CallStub stub ∷ items) s t = ⊥
Leads site (item.JumpTrap c ∷ items) s t = ⊥
Leads site (item.AddressOf r k ∷ items) s t = ⊥

-- ---- what is kept

-- The cells of registers that pass one test, the numbers in memory at places (address and length) that pass the other,
-- and the input and the output.
pub record Keeps (R : ℕ → Type 0) (K : ℕ → ℕ → Type 0) (s t : State) : Type 0 where
  pub cells : (k : ℕ) → R k → slice_index t.registers k ≡ slice_index s.registers k
  pub loads : (n a w : ℕ) → K a n → load n a s ≡ Ok w → load n a t ≡ Ok w
  pub left : t.left ≡ s.left
  pub taken : t.taken ≡ s.taken
  pub written : t.written ≡ s.written

-- the cells that aren't those of a register
abbrev pub OutsideWord : Reg32 → ℕ → Type 0
OutsideWord r k = (k < 4 * number32 r) ⊎ (4 * number32 r + 4 ≤ k)
