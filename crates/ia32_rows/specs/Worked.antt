-- The items of ops, over slots and over registers.
use Rattle.std.specs.Prelude.{◌≡◌, ◌==◌, ℕ, pos, negsuc, List, [], ◌∷◌, ◌++◌, if◌then◌else◌, slice_get, Some, None}
use Rattle.pcc_base.specs.declared.run.Width.TheVariants.{Two}
use Rattle.ia32_insn.specs.declared.register_names.Reg32.{Reg32}
use Rattle.ia32_insn.specs.declared.register_names.Reg32.TheVariants.{Eax, Ecx, Edx, Ebx, Esp, Ebp, Esi, Edi}
use Rattle.ia32_insn.specs.declared.register_names.Reg8.TheVariants.{Al, Bl, Bh, Cl}
use Rattle.ia32_insn.specs.Places.{Place, InWord, InByte, InSlot}
use Rattle.ia32_insn.specs.declared.operand.Rm32.TheVariants as rm
use Rattle.ia32_insn.specs.declared.operand.Rm8.TheVariants as rm8
use Rattle.ia32_insn.specs.declared.insn.AluOp.TheVariants as alu
use Rattle.ia32_insn.specs.declared.insn.Cond.TheVariants as cond
use Rattle.ia32_insn.specs.declared.insn.Insn.{Insn}
use Rattle.ia32_insn.specs.declared.insn.Insn.TheVariants as insn
use Rattle.ia32_insn.specs.declared.item.Item.{Item}
use Rattle.ia32_insn.specs.declared.item.Item.TheVariants as item
use Rattle.ia32_insn.specs.declared.item.Stub.TheVariants as stub
use Rattle.ia32_insn.specs.Items.{near, plain}
use Rattle.flow_graph.specs.declared.op.Bits.TheVariants.{Eight, Sixteen, ThirtyTwo}
use Rattle.flow_graph.specs.declared.op.Comparison.TheVariants.{Lt}
use Rattle.flow_graph.specs.declared.op.Op.{Op}
use Rattle.flow_graph.specs.declared.op.Op.TheVariants as op
use Rattle.flow_graph.specs.Graphs.{Flow}
use Rattle.ia32_rows.specs.Placements.{Placement, below}
use Rattle.ia32_rows.specs.Filling.{fill}
use Rattle.ia32_rows.specs.Rows.{block_rows, headers, leave, prologue, row}

-- the items of an op at point 7 of a graph of one block, with a frame array of five elements of two bytes
abbrev pub row_in : Placement → Op → List Item
row_in placement o =
    row (record { widths = []; arrays = (2, 5) ∷ []; blocks = [] ∷ []; ops = [] }) placement 7 o

-- three variables, each in the same place before and after each point
abbrev pub all_in : Place → Place → Place → Placement
all_in first second third = record {
  frame = 16;
  zeroed = 16;
  arrays = [];
  before = λ point variable. slice_get (first ∷ second ∷ third ∷ []) variable;
  after = λ point variable. slice_get (first ∷ second ∷ third ∷ []) variable;
  between = λ point next. [];
}

-- variables 0 and 1 in EAX and ECX before a point, and variable 2 in this place after it
abbrev pub result_to : Place → Placement
result_to result = record {
  frame = 16;
  zeroed = 16;
  arrays = [];
  before = λ point variable. slice_get (InWord Eax ∷ InWord Ecx ∷ []) variable;
  after = λ point variable. slice_get (InWord Eax ∷ InWord Ecx ∷ result ∷ []) variable;
  between = λ point next. [];
}

-- Over slots a sum is three instructions, and two where the result stands where an operand did. Over registers it is one;
-- a difference whose result stands where its second operand did goes by ESI.
abbrev pub SumsAreRows : Type 0
SumsAreRows =
    (row_in (all_in (InSlot 20) (InSlot 24) (InSlot 28)) (op.Add 2 0 1)
    ≡ plain (insn.MovLoad Esi (below 20)) ∷ plain (insn.AluLoad alu.Add Esi (below 24))
    ∷ plain (insn.Mov (rm.Mem (below 28)) Esi) ∷ [])
    × (row_in (result_to (InWord Edx)) (op.Add 2 0 1)
    ≡ plain (insn.Lea Edx (record { base = Some Eax; index = Some (Ecx, 1); disp = pos 0 })) ∷ [])
    × (row_in (result_to (InSlot 20)) (op.Add 2 0 1)
    ≡ plain (insn.Lea Esi (record { base = Some Eax; index = Some (Ecx, 1); disp = pos 0 }))
    ∷ plain (insn.Mov (rm.Mem (below 20)) Esi) ∷ [])
    × (row_in (all_in (InSlot 20) (InWord Ecx) (InSlot 24)) (op.Add 0 1 0)
    ≡ plain (insn.Alu alu.Add (rm.Mem (below 20)) Ecx) ∷ [])
    × (row_in (all_in (InSlot 20) (InWord Ecx) (InSlot 24)) (op.Sub 0 0 2)
    ≡ plain (insn.MovLoad Esi (below 24)) ∷ plain (insn.Alu alu.Sub (rm.Mem (below 20)) Esi) ∷ [])
    × (row_in (all_in (InSlot 20) (InWord Ecx) (InSlot 24)) (op.Sub 0 2 0)
    ≡ plain (insn.MovLoad Esi (below 24)) ∷ plain (insn.AluLoad alu.Sub Esi (below 20))
    ∷ plain (insn.Mov (rm.Mem (below 20)) Esi) ∷ [])
    × (row_in (result_to (InWord Ecx)) (op.Mul 2 0 1) ≡ plain (insn.IMul Ecx (rm.Reg Eax)) ∷ [])
    × (row_in (result_to (InWord Eax)) (op.Add 2 0 1) ≡ plain (insn.Alu alu.Add (rm.Reg Eax) Ecx) ∷ [])
    × (row_in (result_to (InWord Ecx)) (op.Add 2 0 1) ≡ plain (insn.Alu alu.Add (rm.Reg Ecx) Eax) ∷ [])
    × (row_in (result_to (InWord Ecx)) (op.Sub 2 0 1)
    ≡ plain (insn.Mov (rm.Reg Esi) Eax) ∷ plain (insn.Alu alu.Sub (rm.Reg Esi) Ecx)
    ∷ plain (insn.Mov (rm.Reg Ecx) Esi) ∷ [])
    × (row_in (result_to (InSlot 20)) (op.Sub 2 0 1)
    ≡ plain (insn.Mov (rm.Reg Esi) Eax) ∷ plain (insn.Alu alu.Sub (rm.Reg Esi) Ecx)
    ∷ plain (insn.Mov (rm.Mem (below 20)) Esi) ∷ [])
    × (row_in (result_to (InWord Eax)) (op.Sub 2 0 0) ≡ plain (insn.Alu alu.Sub (rm.Reg Eax) Eax) ∷ [])
    × (row_in (all_in (InWord Eax) (InSlot 20) (InWord Edx)) (op.Add 2 1 0)
    ≡ plain (insn.MovLoad Edx (below 20)) ∷ plain (insn.Alu alu.Add (rm.Reg Edx) Eax) ∷ [])

-- Numbers and copies are one instruction, but from a slot to a slot; a byte is moved as a byte.
abbrev pub MovesAreRows : Type 0
MovesAreRows =
    (row_in (all_in (InWord Eax) (InSlot 20) (InByte Bh)) (op.Const 0 (pos 5))
    ≡ plain (insn.MovImm (rm.Reg Eax) (pos 5)) ∷ [])
    × (row_in (all_in (InWord Eax) (InSlot 20) (InByte Bh)) (op.Const 1 (pos 5))
    ≡ plain (insn.MovImm (rm.Mem (below 20)) (pos 5)) ∷ [])
    × (row_in (all_in (InWord Eax) (InSlot 20) (InByte Bh)) (op.Const 2 (pos 5)) ≡ plain (insn.Mov8Imm Bh 5) ∷ [])
    × (row_in (all_in (InWord Eax) (InSlot 20) (InWord Edx)) (op.Copy 2 1)
    ≡ plain (insn.MovLoad Edx (below 20)) ∷ [])
    × (row_in (all_in (InSlot 24) (InSlot 20) (InWord Edx)) (op.Copy 0 1)
    ≡ plain (insn.MovLoad Esi (below 20)) ∷ plain (insn.Mov (rm.Mem (below 24)) Esi) ∷ [])
    × (row_in (all_in (InByte Bl) (InSlot 20) (InByte Bh)) (op.Copy 2 0)
    ≡ plain (insn.Mov8 (rm8.Reg Bh) Bl) ∷ [])

-- A call counts itself, passes its words from the last one on, and takes them off and the count back behind itself; the
-- result is in EAX. Where it passes no words, it takes none off; where no result is wanted, none is written.
abbrev pub CallsAreRows : Type 0
CallsAreRows =
    (row_in (all_in (InSlot 20) (InWord Ebx) (InSlot 28)) (op.Call (Some 2) 5 (0 ∷ 1 ∷ []))
    ≡ item.AddressOf Esi 0xffffffff
    ∷ plain (insn.AluImm alu.Cmp (rm.Mem (near Esi 0)) (pos 4096))
    ∷ item.JumpTrap (Some cond.Ae)
    ∷ plain (insn.AluImm alu.Add (rm.Mem (near Esi 0)) (pos 1))
    ∷ plain (insn.Push (rm.Reg Ebx))
    ∷ plain (insn.Push (rm.Mem (below 20)))
    ∷ item.CallFunction 5
    ∷ plain (insn.Lea Esp (near Esp 8))
    ∷ item.AddressOf Esi 0xffffffff
    ∷ plain (insn.AluImm alu.Sub (rm.Mem (near Esi 0)) (pos 1))
    ∷ plain (insn.Mov (rm.Mem (below 28)) Eax)
    ∷ [])
    × (row_in (result_to (InWord Edx)) (op.Call None 5 [])
    ≡ item.AddressOf Esi 0xffffffff
    ∷ plain (insn.AluImm alu.Cmp (rm.Mem (near Esi 0)) (pos 4096))
    ∷ item.JumpTrap (Some cond.Ae)
    ∷ plain (insn.AluImm alu.Add (rm.Mem (near Esi 0)) (pos 1))
    ∷ item.CallFunction 5
    ∷ item.AddressOf Esi 0xffffffff
    ∷ plain (insn.AluImm alu.Sub (rm.Mem (near Esi 0)) (pos 1))
    ∷ [])
    × (row_in (result_to (InWord Edx)) (op.Param 2 3)
    ≡ plain (insn.MovLoad Edx (record { base = Some Ebp; index = None; disp = pos 20 })) ∷ [])
    × (row_in (result_to (InWord Eax)) (op.Getchar 2) ≡ item.CallStub stub.Getchar ∷ [])
    × (row_in (all_in (InWord Ebx) (InSlot 20) (InSlot 24)) (op.Exit 0)
    ≡ plain (insn.Push (rm.Reg Ebx)) ∷ item.CallStub stub.Exit ∷ [])

-- A branch compares its words where they stand, and so does the check that two are the same.
abbrev pub BranchesAreRows : Type 0
BranchesAreRows =
    (row_in (all_in (InWord Eax) (InSlot 20) (InSlot 24)) (op.Branch Lt 0 1 3 4)
    ≡ plain (insn.AluLoad alu.Cmp Eax (below 20)) ∷ item.JumpIf cond.L 3 ∷ item.JumpTo 4 ∷ [])
    × (row_in (all_in (InWord Eax) (InSlot 20) (InSlot 24)) (op.Same 1 2)
    ≡ plain (insn.MovLoad Esi (below 20)) ∷ plain (insn.AluLoad alu.Cmp Esi (below 24))
    ∷ item.JumpTrap (Some cond.Ne) ∷ [])
    × (row_in (all_in (InWord Eax) (InSlot 20) (InSlot 24)) (op.Jump 3) ≡ item.JumpTo 3 ∷ [])

-- ---- arrays and static objects

-- three variables in such places, and a frame array 40 bytes below EBP
abbrev pub with_array : Place → Place → Place → Placement
with_array first second third = record {
  frame = 44;
  zeroed = 16;
  arrays = 40 ∷ [];
  before = λ point variable. slice_get (first ∷ second ∷ third ∷ []) variable;
  after = λ point variable. slice_get (first ∷ second ∷ third ∷ []) variable;
  between = λ point next. [];
}

-- The address of a frame array is one instruction in a register, that of a static object too. A static number goes by
-- its address, and a byte is stored by a byte register.
abbrev pub ObjectsAreRows : Type 0
ObjectsAreRows =
    (row_in (with_array (InWord Edx) (InSlot 20) (InWord Ecx)) (op.Frame 0 0)
    ≡ plain (insn.Lea Edx (below 40)) ∷ [])
    × (row_in (with_array (InWord Edx) (InSlot 20) (InWord Ecx)) (op.Static 1 5)
    ≡ item.AddressOf Esi 5 ∷ plain (insn.Mov (rm.Mem (below 20)) Esi) ∷ [])
    × (row_in (with_array (InWord Edx) (InSlot 20) (InWord Ecx)) (op.Get ThirtyTwo 0 5)
    ≡ item.AddressOf Esi 5 ∷ plain (insn.MovLoad Edx (near Esi 0)) ∷ [])
    × (row_in (with_array (InWord Edx) (InSlot 20) (InWord Ecx)) (op.Put Eight 5 2)
    ≡ item.AddressOf Edi 5 ∷ plain (insn.Mov8 (rm8.Mem (near Edi 0)) Cl) ∷ [])
    × (row_in (with_array (InWord Edx) (InSlot 20) (InWord Ecx)) (op.Put Eight 5 1)
    ≡ item.AddressOf Edi 5 ∷ plain (insn.MovLoad Esi (below 20)) ∷ plain (insn.Xchg (rm.Reg Esi) Eax)
    ∷ plain (insn.Mov8 (rm8.Mem (near Edi 0)) Al) ∷ plain (insn.Xchg (rm.Reg Esi) Eax) ∷ [])

-- An access checks that there is an array, and then the index against the number of its elements.
abbrev pub AccessesAreRows : Type 0
AccessesAreRows =
    (row_in (with_array (InWord Edx) (InWord Ebx) (InWord Ecx)) (op.Load Sixteen 0 1 2)
    ≡ plain (insn.Test (rm.Reg Ebx) Ebx)
    ∷ item.JumpTrap (Some cond.E)
    ∷ plain (insn.AluLoad alu.Cmp Ecx (record { base = Some Ebx; index = None; disp = negsuc 3 }))
    ∷ item.JumpTrap (Some cond.Ae)
    ∷ plain (insn.MovSx16 Edx (rm.Mem (record { base = Some Ebx; index = Some (Ecx, 2); disp = pos 0 })))
    ∷ [])
    × (row_in (with_array (InSlot 20) (InSlot 24) (InWord Ecx)) (op.Store ThirtyTwo 0 1 2)
    ≡ plain (insn.MovLoad Esi (below 20))
    ∷ plain (insn.Test (rm.Reg Esi) Esi)
    ∷ item.JumpTrap (Some cond.E)
    ∷ plain (insn.MovLoad Edi (below 24))
    ∷ plain (insn.AluLoad alu.Cmp Edi (record { base = Some Esi; index = None; disp = negsuc 3 }))
    ∷ item.JumpTrap (Some cond.Ae)
    ∷ plain (insn.Mov (rm.Mem (record { base = Some Esi; index = Some (Edi, 4); disp = pos 0 })) Ecx)
    ∷ [])
    × (row_in (with_array (InWord Edx) (InWord Ecx) (InSlot 20)) (op.Store Sixteen 0 1 2)
    ≡ plain (insn.Test (rm.Reg Edx) Edx)
    ∷ item.JumpTrap (Some cond.E)
    ∷ plain (insn.AluLoad alu.Cmp Ecx (record { base = Some Edx; index = None; disp = negsuc 3 }))
    ∷ item.JumpTrap (Some cond.Ae)
    ∷ plain (insn.Lea Edi (record { base = Some Edx; index = Some (Ecx, 2); disp = pos 0 }))
    ∷ plain (insn.MovLoad Esi (below 20))
    ∷ plain (insn.Mov16 (rm.Mem (near Edi 0)) Esi)
    ∷ [])
    × (row_in (with_array (InWord Edx) (InWord Ecx) (InWord Ebx)) (op.Store Eight 0 1 2)
    ≡ plain (insn.Test (rm.Reg Edx) Edx)
    ∷ item.JumpTrap (Some cond.E)
    ∷ plain (insn.AluLoad alu.Cmp Ecx (record { base = Some Edx; index = None; disp = negsuc 3 }))
    ∷ item.JumpTrap (Some cond.Ae)
    ∷ plain (insn.Mov8 (rm8.Mem (record { base = Some Edx; index = Some (Ecx, 1); disp = pos 0 })) Bl)
    ∷ [])

-- An array is made 0 word by word, from the last one down, in a loop of its own: five elements of two bytes are three
-- words.
abbrev pub ClearsAreRows : Type 0
ClearsAreRows =
    row_in (with_array (InWord Edx) (InSlot 20) (InWord Ecx)) (op.Clear 0)
    ≡ plain (insn.Lea Edi (below 40))
    ∷ plain (insn.Lea Esi (below 28))
    ∷ item.Label 9
    ∷ plain (insn.AluImm alu.Sub (rm.Reg Esi) (pos 4))
    ∷ plain (insn.MovImm (rm.Mem (near Esi 0)) (pos 0))
    ∷ plain (insn.Alu alu.Cmp (rm.Reg Esi) Edi)
    ∷ item.JumpIf cond.Ne 9
    ∷ []

-- Behind the first items the number of each array's elements goes before it.
abbrev pub HeadersAreRows : Type 0
HeadersAreRows =
    headers ((2, 5) ∷ (4, 3) ∷ []) (28 ∷ 44 ∷ [])
    ≡ plain (insn.MovImm (rm.Mem (below 32)) (pos 5)) ∷ plain (insn.MovImm (rm.Mem (below 48)) (pos 3)) ∷ []

-- ---- between points

-- Three blocks. Behind point 0 stands a branch, which leads to point 2 or to point 3; and point 3 leads to point 2.
abbrev pub three_blocks : Flow
three_blocks =
    record {
      widths = Two ∷ [];
      arrays = [];
      blocks = (0 ∷ 1 ∷ []) ∷ (2 ∷ []) ∷ (3 ∷ []) ∷ [];
      ops = op.Const 0 (pos 5) ∷ op.Branch Lt 0 0 1 2 ∷ op.Return (Some 0) ∷ op.Jump 1 ∷ [];
    }

-- what moves a variable to a register from EAX
abbrev pub from_eax : Reg32 → List Insn
from_eax r = insn.Mov (rm.Reg r) Eax ∷ []

-- The variable is always in EAX, and these moves stand on the way from each point to the next.
abbrev pub with_moves : (ℕ → ℕ → List Insn) → Placement
with_moves moves = record {
  frame = 16;
  zeroed = 16;
  arrays = [];
  before = λ point variable. Some (InWord Eax);
  after = λ point variable. Some (InWord Eax);
  between = moves;
}

-- Moves stand behind the row of a point, before a jump, and on both ways of a branch: those on the way that it takes
-- have a label of their own, which isn't there where they aren't.
abbrev pub MovesAreBetween : Type 0
MovesAreBetween =
    (block_rows three_blocks (with_moves (λ point next. from_eax (if next == 2 then Ecx else Edx))) 0
    three_blocks.blocks
    ≡ item.Label 0
    ∷ item.Point 0
    ∷ plain (insn.MovImm (rm.Reg Eax) (pos 5))
    ∷ plain (insn.Mov (rm.Reg Edx) Eax)
    ∷ item.Point 1
    ∷ plain (insn.Alu alu.Cmp (rm.Reg Eax) Eax)
    ∷ item.JumpIf cond.L 5
    ∷ plain (insn.Mov (rm.Reg Edx) Eax)
    ∷ item.JumpTo 2
    ∷ item.Label 5
    ∷ plain (insn.Mov (rm.Reg Ecx) Eax)
    ∷ item.JumpTo 1
    ∷ item.Label 1
    ∷ item.Point 2
    ∷ leave
    ++ item.Label 2
    ∷ item.Point 3
    ∷ plain (insn.Mov (rm.Reg Ecx) Eax)
    ∷ item.JumpTo 1
    ∷ [])
    × (row three_blocks (with_moves (λ point next. if next == 2 then [] else from_eax Edx)) 1 (op.Branch Lt 0 0 1 2)
    ≡ plain (insn.Alu alu.Cmp (rm.Reg Eax) Eax)
    ∷ item.JumpIf cond.L 1
    ∷ plain (insn.Mov (rm.Reg Edx) Eax)
    ∷ item.JumpTo 2
    ∷ [])

-- A function's first items have a loop only where words further below EBP than those before are made 0.
abbrev pub FirstItemsAreRows : Type 0
FirstItemsAreRows =
    (prologue 16 16 3
    ≡ plain (insn.Push (rm.Reg Ebp))
    ∷ plain (insn.Mov (rm.Reg Ebp) Esp)
    ∷ plain (insn.Push (rm.Reg Ebx))
    ∷ plain (insn.Push (rm.Reg Esi))
    ∷ plain (insn.Push (rm.Reg Edi))
    ∷ plain (insn.Lea Esp (below 16))
    ∷ [])
    × (prologue 24 16 3
    ≡ plain (insn.Push (rm.Reg Ebp))
    ∷ plain (insn.Mov (rm.Reg Ebp) Esp)
    ∷ plain (insn.Push (rm.Reg Ebx))
    ∷ plain (insn.Push (rm.Reg Esi))
    ∷ plain (insn.Push (rm.Reg Edi))
    ∷ plain (insn.Lea Esp (below 24))
    ∷ plain (insn.MovImm (rm.Reg Esi) (pos 0))
    ∷ plain (insn.Lea Edi (below 16))
    ∷ fill Edi Esi Esp 3)
