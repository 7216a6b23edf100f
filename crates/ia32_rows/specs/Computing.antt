-- The rows of ops that compute a value from others, and of those that go by a comparison: each in the result's register
-- where it may, with operands where they stand.
use Rattle.std.specs.Prelude.{◌==◌, ◌||◌, ℕ, List, [], ◌∷◌, ◌++◌, if◌then◌else◌, Some}
use Rattle.ia32_insn.specs.declared.register_names.Reg32.{Reg32}
use Rattle.ia32_insn.specs.declared.register_names.Reg32.TheVariants.{Eax, Ecx, Edx, Ebx, Esp, Ebp, Esi, Edi}
use Rattle.ia32_insn.specs.declared.register_names.Reg8.{Reg8}
use Rattle.ia32_insn.specs.declared.register_names.Reg8.TheVariants.{Al, Cl, Dl, Bl}
use Rattle.ia32_insn.specs.Registers.{number32, number8}
use Rattle.ia32_insn.specs.Places.{Place, InWord, InByte, InSlot}
use Rattle.ia32_insn.specs.declared.operand.Rm32.{Rm32}
use Rattle.ia32_insn.specs.declared.operand.Rm32.TheVariants as rm
use Rattle.ia32_insn.specs.declared.operand.Rm8.{Rm8}
use Rattle.ia32_insn.specs.declared.operand.Rm8.TheVariants as rm8
use Rattle.ia32_insn.specs.declared.insn.AluOp.TheVariants as alu
use Rattle.ia32_insn.specs.declared.insn.Cond.{Cond}
use Rattle.ia32_insn.specs.declared.insn.Cond.TheVariants as cond
use Rattle.ia32_insn.specs.declared.insn.Insn.{Insn}
use Rattle.ia32_insn.specs.declared.insn.Insn.TheVariants as insn
use Rattle.ia32_insn.specs.declared.insn.ShiftOp.{ShiftOp}
use Rattle.ia32_insn.specs.declared.item.Item.{Item}
use Rattle.ia32_insn.specs.declared.item.Item.TheVariants as item
use Rattle.ia32_insn.specs.Items.{plain}
use Rattle.flow_graph.specs.declared.op.Comparison.{Comparison}
use Rattle.flow_graph.specs.declared.op.Comparison.TheVariants.{Eq, Ne, Lt, Le, Gt, Ge}
use Rattle.flow_graph.specs.declared.op.Order.{Order}
use Rattle.flow_graph.specs.declared.op.Order.TheVariants as order
use Rattle.ia32_rows.specs.Placements.{below}
use Rattle.ia32_rows.specs.Moves.{copy_row, is_in, operate, read, target_of, working, write}

-- ---- products

-- IMUL of a register by the word of a place (Intel manual, volume 2)
abbrev pub multiply : Reg32 → Place → List Item
multiply t (InWord r) = plain (insn.IMul t (rm.Reg r)) ∷ []
multiply t (InByte r) = plain (insn.MovSx8 Edi (rm8.Reg r)) ∷ plain (insn.IMul t (rm.Reg Edi)) ∷ []
multiply t (InSlot k) = plain (insn.IMul t (rm.Mem (below k))) ∷ []

-- the first operand to a register, unless it stands there, the product, and the result to its place, unless it is there
abbrev pub product_of : Place → Place → Place → List Item
product_of result first second =
    read (working result first second) first
    ++ multiply (working result first second) second
    ++ write result (working result first second)

-- the operand that stands in the row's register is the first
abbrev pub multiplying : Place → Place → Place → List Item
multiplying result first second =
    if is_in (target_of result) second then product_of result second first else product_of result first second

-- ---- one operand

-- The operand to the register that the row works in, unless it stands there, the change, as NEG and NOT (Intel manual,
-- volume 2), and the result to its place, unless it is there.
abbrev pub changing : (Rm32 → Insn) → Place → Place → List Item
changing how result operand =
    read (target_of result) operand ++ plain (how (rm.Reg (target_of result))) ∷ [] ++ write result (target_of result)

-- the lowest byte of a register for variables; the others have none of their own
abbrev pub low_byte : Reg32 → Reg8
low_byte Eax = Al
low_byte Ecx = Cl
low_byte Edx = Dl
low_byte Ebx = Bl
low_byte Esp = Al
low_byte Ebp = Al
low_byte Esi = Al
low_byte Edi = Al

-- the byte of a place, or the lowest one
abbrev pub byte_operand : Place → Rm8
byte_operand (InWord r) = rm8.Reg (low_byte r)
byte_operand (InByte r) = rm8.Reg r
byte_operand (InSlot k) = rm8.Mem (below k)

-- the byte of a place to a register, with its sign by MOVSX or with zero bits by MOVZX
abbrev pub extend : (Reg32 → Rm8 → Insn) → Reg32 → Place → List Item
extend how t operand = plain (how t (byte_operand operand)) ∷ []

-- the byte so extended to the row's register, and that to its place, unless it is there
abbrev pub widening : (Reg32 → Rm8 → Insn) → Place → Place → List Item
widening how result operand = extend how (target_of result) operand ++ write result (target_of result)

-- the low byte of the operand's word to the result
abbrev pub lowering : Place → Place → List Item
lowering (InWord r) operand = copy_row operand (InWord r)
lowering (InByte r) (InWord q) = copy_row (InByte (low_byte q)) (InByte r)
lowering (InByte r) (InByte q) = copy_row (InByte q) (InByte r)
lowering (InByte r) (InSlot k) = plain (insn.Mov8Load r (below k)) ∷ []
lowering (InSlot k) operand = copy_row operand (InSlot k)

-- MOVSX of the low 16 bits of a place's word to a register
abbrev pub extend_half : Reg32 → Place → List Item
extend_half t (InWord r) = plain (insn.MovSx16 t (rm.Reg r)) ∷ []
extend_half t (InByte r) = read t (InByte r) ++ plain (insn.MovSx16 t (rm.Reg t)) ∷ []
extend_half t (InSlot k) = plain (insn.MovSx16 t (rm.Mem (below k))) ∷ []

-- these 16 bits with their sign to the result
abbrev pub halving : Place → Place → List Item
halving result operand = extend_half (target_of result) operand ++ write result (target_of result)

-- ---- shifts

-- the count's byte to CL, unless it stands there
abbrev pub into_count : Place → List Item
into_count (InWord r) = plain (insn.Mov8 (rm8.Reg Cl) (low_byte r)) ∷ []
into_count (InByte r) = if number8 r == number8 Cl then [] else plain (insn.Mov8 (rm8.Reg Cl) r) ∷ []
into_count (InSlot k) = plain (insn.Mov8Load Cl (below k)) ∷ []

-- The register that is shifted: the result's own, unless the count stands in it and the first operand would be read
-- over it, or it is ECX; else ESI.
abbrev pub shifted_in : Place → Place → Place → Reg32
shifted_in (InWord r) first count = if number32 r == number32 Ecx then Esi else working (InWord r) first count
shifted_in (InByte r) first count = Esi
shifted_in (InSlot k) first count = Esi

-- the first operand to that register, unless it stands there, the count to CL, the shift (Intel manual, volume 2,
-- SAL/SAR/SHL/SHR), and the result to its place
abbrev pub shifting : ShiftOp → Place → Place → Place → List Item
shifting how result first count =
    read (shifted_in result first count) first
    ++ (into_count count ++ plain (insn.ShiftCl how (rm.Reg (shifted_in result first count))) ∷ [])
    ++ write result (shifted_in result first count)

-- ---- divisions

-- the divisor's word to ESI, where it stands in EAX or EDX
abbrev pub clear_divisor : Place → List Item
clear_divisor (InWord r) =
    if number32 r == number32 Eax || number32 r == number32 Edx then read Esi (InWord r) else []
clear_divisor (InByte r) = read Esi (InByte r)
clear_divisor (InSlot k) = []

-- and where it is then
abbrev pub divisor_of : Place → Rm32
divisor_of (InWord r) =
    if number32 r == number32 Eax || number32 r == number32 Edx then rm.Reg Esi else rm.Reg r
divisor_of (InByte r) = rm.Reg Esi
divisor_of (InSlot k) = rm.Mem (below k)

-- what makes the upper word of a dividend without sign: XOR of EDX with itself (Intel manual, volume 2, XOR)
abbrev pub zero_edx : Insn
zero_edx = insn.Alu alu.Xor (rm.Reg Edx) Edx

-- what stands before the division: the divisor out of the way, the first operand to EAX, and the upper word of the
-- dividend to EDX
abbrev pub before_division : Insn → Place → Place → List Item
before_division upper first second = clear_divisor second ++ read Eax first ++ plain upper ∷ []

-- the division (Intel manual, volume 2, CDQ and IDIV; DIV with zero above); the quotient, in EAX, or the remainder, in
-- EDX, to the result
abbrev pub dividing : Insn → (Rm32 → Insn) → Reg32 → Place → Place → Place → List Item
dividing upper divide part result first second =
    before_division upper first second ++ plain (divide (divisor_of second)) ∷ [] ++ write result part

-- ---- comparisons

-- the condition of a signed comparison (Intel manual, volume 1, appendix B)
abbrev pub cond_of : Comparison → Cond
cond_of Eq = cond.E
cond_of Ne = cond.Ne
cond_of Lt = cond.L
cond_of Le = cond.Le
cond_of Gt = cond.G
cond_of Ge = cond.Ge

-- the condition of a comparison without sign
abbrev pub cond_of_order : Order → Cond
cond_of_order order.Lt = cond.B
cond_of_order order.Le = cond.Be
cond_of_order order.Gt = cond.A
cond_of_order order.Ge = cond.Ae

-- CMP of two words where they stand; the first through ESI where both are in memory
abbrev pub comparing : Place → Place → List Item
comparing (InWord r) second = operate alu.Cmp r second
comparing (InByte r) second = read Esi (InByte r) ++ operate alu.Cmp Esi second
comparing (InSlot k) (InWord q) = plain (insn.Alu alu.Cmp (rm.Mem (below k)) q) ∷ []
comparing (InSlot k) (InByte q) = read Esi (InSlot k) ++ operate alu.Cmp Esi (InByte q)
comparing (InSlot k) (InSlot b) = read Esi (InSlot k) ++ operate alu.Cmp Esi (InSlot b)

-- 1 or 0 to a place, by a condition (Intel manual, volume 2, SETcc and MOVZX)
abbrev pub set_row : Cond → Place → List Item
set_row c (InWord r) =
    plain (insn.SetCc c (rm8.Reg (low_byte r))) ∷ plain (insn.MovZx8 r (rm8.Reg (low_byte r))) ∷ []
set_row c (InByte r) = plain (insn.SetCc c (rm8.Reg r)) ∷ []
set_row c (InSlot k) =
    plain (insn.SetCc c (rm8.Mem (below k)))
    ∷ plain (insn.MovZx8 Esi (rm8.Mem (below k)))
    ∷ plain (insn.Mov (rm.Mem (below k)) Esi)
    ∷ []

-- whether two words compare so
abbrev pub setting : Cond → Place → Place → Place → List Item
setting c result first second = comparing first second ++ set_row c result

-- to a label, through the moves on the way there
abbrev pub jumping : List Item → ℕ → List Item
jumping moves label = moves ++ item.JumpTo label ∷ []

-- To one label where the flags meet the condition, to the other where they don't, each through the moves on its way.
-- Where there are some on the way to the first, the branch leads to them, behind a label of their own.
abbrev pub choosing : Cond → ℕ → List Item → List Item → ℕ → ℕ → List Item
choosing c detour [] moves taken other = item.JumpIf c taken ∷ jumping moves other
choosing c detour (move ∷ first) moves taken other =
    item.JumpIf c detour ∷ jumping moves other ++ item.Label detour ∷ jumping (move ∷ first) taken

-- to one label where two words compare so, to the other where they don't
abbrev pub branching : Cond → ℕ → Place → Place → List Item → List Item → ℕ → ℕ → List Item
branching c detour first second to_taken to_other taken other =
    comparing first second ++ choosing c detour to_taken to_other taken other

-- the trap of a failed check, unless two words are the same
abbrev pub same_row : Place → Place → List Item
same_row first second = comparing first second ++ item.JumpTrap (Some cond.Ne) ∷ []
