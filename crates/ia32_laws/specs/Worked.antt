-- Rows over slots and over registers.
use Rattle.std.specs.Prelude.{◌≡◌, [], ◌∷◌}
use Rattle.ia32_insn.specs.declared.register_names.Reg32.TheVariants.{Eax, Ecx, Edx, Ebx, Esi}
use Rattle.ia32_insn.specs.declared.register_names.Reg8.TheVariants.{Bl, Cl, Dh}
use Rattle.ia32_insn.specs.Places.{InWord, InByte, InSlot}
use Rattle.ia32_insn.specs.declared.operand.Rm32.TheVariants as rm
use Rattle.ia32_insn.specs.declared.operand.Rm8.TheVariants as rm8
use Rattle.ia32_insn.specs.declared.insn.AluOp.TheVariants as alu
use Rattle.ia32_insn.specs.declared.insn.Cond.TheVariants as cond
use Rattle.ia32_insn.specs.declared.insn.Insn.TheVariants as insn
use Rattle.ia32_insn.specs.declared.insn.ShiftOp.TheVariants as shift
use Rattle.ia32_insn.specs.declared.item.Item.TheVariants as item
use Rattle.ia32_insn.specs.Items.{plain}
use Rattle.flow_graph.specs.declared.op.Comparison.TheVariants.{Lt, Ge}
use Rattle.ia32_rows.specs.Placements.{below}
use Rattle.flow_graph.specs.declared.op.Order.TheVariants as order
use Rattle.ia32_rows.specs.Rows.{branching, cond_of, cond_of_order, dividing, halving, lowering, setting, shifting}
use Rattle.ia32_rows.specs.Rows.{widening, zero_edx}

-- Over slots a shift is four instructions, and one where the operand is in the result's place and the count in CL.
-- Where the result stands in ECX it goes by ESI.
abbrev pub ShiftsAreRows : Type 0
ShiftsAreRows =
    (shifting shift.Shl (InSlot 28) (InSlot 20) (InSlot 24)
    ≡ plain (insn.MovLoad Esi (below 20)) ∷ plain (insn.Mov8Load Cl (below 24))
    ∷ plain (insn.ShiftCl shift.Shl (rm.Reg Esi)) ∷ plain (insn.Mov (rm.Mem (below 28)) Esi) ∷ [])
    × (shifting shift.Sar (InWord Eax) (InWord Eax) (InByte Cl)
    ≡ plain (insn.ShiftCl shift.Sar (rm.Reg Eax)) ∷ [])
    × (shifting shift.Sar (InWord Edx) (InWord Eax) (InByte Dh)
    ≡ plain (insn.Mov (rm.Reg Esi) Eax) ∷ plain (insn.Mov8 (rm8.Reg Cl) Dh)
    ∷ plain (insn.ShiftCl shift.Sar (rm.Reg Esi)) ∷ plain (insn.Mov (rm.Reg Edx) Esi) ∷ [])
    × (shifting shift.Shl (InWord Ecx) (InWord Ebx) (InByte Cl)
    ≡ plain (insn.Mov (rm.Reg Esi) Ebx) ∷ plain (insn.ShiftCl shift.Shl (rm.Reg Esi))
    ∷ plain (insn.Mov (rm.Reg Ecx) Esi) ∷ [])

-- A division by what stands in EDX or EAX goes by ESI; else the divisor is read where it stands.
abbrev pub DivisionsAreRows : Type 0
DivisionsAreRows =
    (dividing insn.Cdq insn.IDiv Eax (InSlot 28) (InSlot 20) (InSlot 24)
    ≡ plain (insn.MovLoad Eax (below 20)) ∷ plain insn.Cdq ∷ plain (insn.IDiv (rm.Mem (below 24)))
    ∷ plain (insn.Mov (rm.Mem (below 28)) Eax) ∷ [])
    × (dividing insn.Cdq insn.IDiv Eax (InWord Eax) (InWord Eax) (InWord Ebx)
    ≡ plain insn.Cdq ∷ plain (insn.IDiv (rm.Reg Ebx)) ∷ [])
    × (dividing insn.Cdq insn.IDiv Edx (InWord Edx) (InWord Ecx) (InWord Eax)
    ≡ plain (insn.Mov (rm.Reg Esi) Eax) ∷ plain (insn.Mov (rm.Reg Eax) Ecx) ∷ plain insn.Cdq
    ∷ plain (insn.IDiv (rm.Reg Esi)) ∷ [])
    × (dividing zero_edx insn.Div Eax (InWord Eax) (InWord Eax) (InWord Ebx)
    ≡ plain (insn.Alu alu.Xor (rm.Reg Edx) Edx) ∷ plain (insn.Div (rm.Reg Ebx)) ∷ [])

-- Comparisons: one instruction before the condition, unless both words are in memory. A branch that moves something on
-- the way that it takes leads to a label of its own.
abbrev pub ComparisonsAreRows : Type 0
ComparisonsAreRows =
    (setting (cond_of Lt) (InWord Ebx) (InWord Eax) (InSlot 20)
    ≡ plain (insn.AluLoad alu.Cmp Eax (below 20)) ∷ plain (insn.SetCc cond.L (rm8.Reg Bl))
    ∷ plain (insn.MovZx8 Ebx (rm8.Reg Bl)) ∷ [])
    × (branching (cond_of Ge) 9 (InSlot 20) (InWord Edx) [] [] 3 4
    ≡ plain (insn.Alu alu.Cmp (rm.Mem (below 20)) Edx) ∷ item.JumpIf cond.Ge 3 ∷ item.JumpTo 4 ∷ [])
    × (branching (cond_of Lt) 9 (InSlot 20) (InSlot 24) [] [] 3 4
    ≡ plain (insn.MovLoad Esi (below 20)) ∷ plain (insn.AluLoad alu.Cmp Esi (below 24)) ∷ item.JumpIf cond.L 3
    ∷ item.JumpTo 4 ∷ [])
    × (branching (cond_of Ge) 9 (InSlot 20) (InWord Edx) (plain (insn.Mov (rm.Reg Ebx) Eax) ∷ []) [] 3 4
    ≡ plain (insn.Alu alu.Cmp (rm.Mem (below 20)) Edx) ∷ item.JumpIf cond.Ge 9 ∷ item.JumpTo 4 ∷ item.Label 9
    ∷ plain (insn.Mov (rm.Reg Ebx) Eax) ∷ item.JumpTo 3 ∷ [])
    × (setting (cond_of_order order.Lt) (InWord Ebx) (InWord Eax) (InSlot 20)
    ≡ plain (insn.AluLoad alu.Cmp Eax (below 20)) ∷ plain (insn.SetCc cond.B (rm8.Reg Bl))
    ∷ plain (insn.MovZx8 Ebx (rm8.Reg Bl)) ∷ [])

-- The low byte and the low 16 bits of a word are one instruction, in a register and in a slot; so is a byte extended.
abbrev pub PartsAreRows : Type 0
PartsAreRows =
    (lowering (InByte Dh) (InWord Ebx) ≡ plain (insn.Mov8 (rm8.Reg Dh) Bl) ∷ [])
    × (lowering (InSlot 20) (InWord Ebx) ≡ plain (insn.Mov (rm.Mem (below 20)) Ebx) ∷ [])
    × (halving (InWord Eax) (InWord Ebx) ≡ plain (insn.MovSx16 Eax (rm.Reg Ebx)) ∷ [])
    × (lowering (InByte Dh) (InSlot 20) ≡ plain (insn.Mov8Load Dh (below 20)) ∷ [])
    × (halving (InWord Eax) (InSlot 20) ≡ plain (insn.MovSx16 Eax (rm.Mem (below 20))) ∷ [])
    × (widening insn.MovZx8 (InWord Eax) (InByte Dh) ≡ plain (insn.MovZx8 Eax (rm8.Reg Dh)) ∷ [])
