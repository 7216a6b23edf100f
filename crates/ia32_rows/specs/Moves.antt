-- How words and bytes move between places and registers, and what an instruction works on: pieces of rows, each over
-- places of any kind.
use Rattle.std.specs.Prelude.{◌%◌, ◌&&◌, ◌||◌, ◌==◌, not, ℕ, ℤ, pos, Bool, false, List, [], ◌∷◌, ◌++◌, Some}
use Rattle.std.specs.Prelude.{if◌then◌else◌}
use Rattle.std.specs.Int.{w32, cast_unsigned}
use Rattle.ia32_insn.specs.declared.register_names.Reg32.{Reg32}
use Rattle.ia32_insn.specs.declared.register_names.Reg32.TheVariants.{Esi, Edi}
use Rattle.ia32_insn.specs.Registers.{number32, number8}
use Rattle.ia32_insn.specs.Places.{Place, InWord, InByte, InSlot}
use Rattle.ia32_insn.specs.declared.operand.Mem.{Mem}
use Rattle.ia32_insn.specs.declared.operand.Rm32.TheVariants as rm
use Rattle.ia32_insn.specs.declared.operand.Rm8.TheVariants as rm8
use Rattle.ia32_insn.specs.declared.insn.AluOp.{AluOp}
use Rattle.ia32_insn.specs.declared.insn.AluOp.TheVariants as alu
use Rattle.ia32_insn.specs.declared.insn.Insn.TheVariants as insn
use Rattle.ia32_insn.specs.declared.item.Item.{Item}
use Rattle.ia32_insn.specs.Items.{plain}
use Rattle.ia32_rows.specs.Placements.{below}

-- ---- registers and places

-- The words of EAX, ECX, EDX and EBX are for variables; ESI and EDI are scratch, and so is the frame's word 16 below
-- EBP.
abbrev pub scratch : ℕ
scratch = 16

-- the place is the register, or a byte of it
abbrev pub is_in : Reg32 → Place → Bool
is_in t (InWord r) = number32 r == number32 t
is_in t (InByte r) = number8 r % 4 == number32 t
is_in t (InSlot k) = false

-- the place is the slot
abbrev pub is_at : ℕ → Place → Bool
is_at k (InWord r) = false
is_at k (InByte r) = false
is_at k (InSlot b) = b == k

-- the word of a place to a register, unless it stands there; a byte with its sign
abbrev pub read : Reg32 → Place → List Item
read t (InWord r) = if number32 r == number32 t then [] else plain (insn.Mov (rm.Reg t) r) ∷ []
read t (InByte r) = plain (insn.MovSx8 t (rm8.Reg r)) ∷ []
read t (InSlot k) = plain (insn.MovLoad t (below k)) ∷ []

-- the word of a register to a place, unless it stands there; its low byte to a byte, by the word of scratch
abbrev pub write : Place → Reg32 → List Item
write (InWord r) t = if number32 r == number32 t then [] else plain (insn.Mov (rm.Reg r) t) ∷ []
write (InByte r) t = plain (insn.Mov (rm.Mem (below scratch)) t) ∷ plain (insn.Mov8Load r (below scratch)) ∷ []
write (InSlot k) t = plain (insn.Mov (rm.Mem (below k)) t) ∷ []

-- an operation on a register, with the second operand where it stands
abbrev pub operate : AluOp → Reg32 → Place → List Item
operate how t (InWord r) = plain (insn.Alu how (rm.Reg t) r) ∷ []
operate how t (InByte r) = plain (insn.MovSx8 Edi (rm8.Reg r)) ∷ plain (insn.Alu how (rm.Reg t) Edi) ∷ []
operate how t (InSlot k) = plain (insn.AluLoad how t (below k)) ∷ []

-- The register that an operation works in: the result's own, unless the second operand stands in it and the first would
-- be read over it; else ESI.
abbrev pub working : Place → Place → Place → Reg32
working (InWord r) first second = if is_in r second && not (is_in r first) then Esi else r
working (InByte r) first second = Esi
working (InSlot k) first second = Esi

-- the register that a row of one operand works in: the result's own, or ESI
abbrev pub target_of : Place → Reg32
target_of (InWord r) = r
target_of (InByte r) = Esi
target_of (InSlot k) = Esi

-- the operand stands where the result will, in its register or in its slot
abbrev pub has_operand : Place → Place → Bool
has_operand (InWord r) operand = is_in r operand
has_operand (InByte r) operand = false
has_operand (InSlot k) operand = is_at k operand

-- ---- numbers, copies and operations

-- A number to a place; its low byte to a byte.
abbrev pub number_row : Place → ℤ → List Item
number_row (InWord r) n = plain (insn.MovImm (rm.Reg r) n) ∷ []
number_row (InByte r) n = plain (insn.Mov8Imm r (cast_unsigned w32 n % 256)) ∷ []
number_row (InSlot k) n = plain (insn.MovImm (rm.Mem (below k)) n) ∷ []

-- From a place to another. No row is empty, so that two points have two addresses.
abbrev pub copy_row : Place → Place → List Item
copy_row (InWord s) (InWord d) = plain (insn.Mov (rm.Reg d) s) ∷ []
copy_row (InWord s) (InByte d) = write (InByte d) s
copy_row (InWord s) (InSlot d) = plain (insn.Mov (rm.Mem (below d)) s) ∷ []
copy_row (InByte s) (InWord d) = plain (insn.MovSx8 d (rm8.Reg s)) ∷ []
copy_row (InByte s) (InByte d) = plain (insn.Mov8 (rm8.Reg d) s) ∷ []
copy_row (InByte s) (InSlot d) = plain (insn.Mov8 (rm8.Mem (below d)) s) ∷ []
copy_row (InSlot s) (InWord d) = plain (insn.MovLoad d (below s)) ∷ []
copy_row (InSlot s) (InByte d) = plain (insn.Mov8Load d (below s)) ∷ []
copy_row (InSlot s) (InSlot d) = plain (insn.MovLoad Esi (below s)) ∷ plain (insn.Mov (rm.Mem (below d)) Esi) ∷ []

-- the first operand to a register, unless it stands there, the operation, and the result to its place, unless it is
-- that register
abbrev pub by_register : AluOp → Place → Place → Place → List Item
by_register how result first second =
    read (working result first second) first
    ++ operate how (working result first second) second
    ++ write result (working result first second)

-- an operation on a slot, with the word of the second operand in a register: its own, or ESI
abbrev pub in_slot : AluOp → ℕ → Place → List Item
in_slot how k second =
    read (target_of second) second ++ plain (insn.Alu how (rm.Mem (below k)) (target_of second)) ∷ []

-- an operation on two words: on the slot, where the first operand stands in that of the result, else in a register
abbrev pub operation : AluOp → Place → Place → Place → List Item
operation how (InWord r) first second = by_register how (InWord r) first second
operation how (InByte r) first second = by_register how (InByte r) first second
operation how (InSlot k) first second =
    if is_at k first then in_slot how k second else by_register how (InSlot k) first second

-- where the operands commute, the one that stands where the result will is the first
abbrev pub commuting : AluOp → Place → Place → Place → List Item
commuting how result first second =
    if has_operand result second then operation how result second first else operation how result first second

-- the sum of two registers, as an address (Intel manual, volume 2, LEA)
abbrev pub sum_of : Reg32 → Reg32 → Mem
sum_of first second = record { base = Some first; index = Some (second, 1); disp = pos 0 }

-- Two registers are added by LEA, unless one of them is the result's: in that the other is added to it. Words that stand
-- elsewhere are added as other operands that commute.
abbrev pub adding : Place → Place → Place → List Item
adding result (InWord a) (InWord b) =
    if has_operand result (InWord a) || has_operand result (InWord b)
    then commuting alu.Add result (InWord a) (InWord b)
    else plain (insn.Lea (target_of result) (sum_of a b)) ∷ write result (target_of result)
adding result (InWord a) (InByte b) = commuting alu.Add result (InWord a) (InByte b)
adding result (InWord a) (InSlot k) = commuting alu.Add result (InWord a) (InSlot k)
adding result (InByte a) second = commuting alu.Add result (InByte a) second
adding result (InSlot k) second = commuting alu.Add result (InSlot k) second

-- the word of a place onto the stack
abbrev pub pass : Place → List Item
pass (InWord r) = plain (insn.Push (rm.Reg r)) ∷ []
pass (InByte r) = plain (insn.MovSx8 Esi (rm8.Reg r)) ∷ plain (insn.Push (rm.Reg Esi)) ∷ []
pass (InSlot k) = plain (insn.Push (rm.Mem (below k))) ∷ []
