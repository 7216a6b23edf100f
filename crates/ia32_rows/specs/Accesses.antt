-- The rows of ops on arrays and static objects. The word of an array is the address of its first element, and 0 where
-- there is none; how many elements it has stands in the four bytes before them.
use Rattle.std.specs.Prelude.{ℕ, pos, neg_ℤ, List, [], ◌∷◌, ◌++◌, Some, None}
use Rattle.ia32_insn.specs.declared.register_names.Reg32.{Reg32}
use Rattle.ia32_insn.specs.declared.register_names.Reg32.TheVariants.{Eax, Esi, Edi}
use Rattle.ia32_insn.specs.declared.register_names.Reg8.TheVariants.{Al}
use Rattle.ia32_insn.specs.Places.{Place, InWord, InByte, InSlot}
use Rattle.ia32_insn.specs.declared.operand.Mem.{Mem}
use Rattle.ia32_insn.specs.declared.operand.Rm32.TheVariants as rm
use Rattle.ia32_insn.specs.declared.operand.Rm8.TheVariants as rm8
use Rattle.ia32_insn.specs.declared.insn.AluOp.TheVariants as alu
use Rattle.ia32_insn.specs.declared.insn.Cond.TheVariants as cond
use Rattle.ia32_insn.specs.declared.insn.Insn.{Insn}
use Rattle.ia32_insn.specs.declared.insn.Insn.TheVariants as insn
use Rattle.ia32_insn.specs.declared.item.Item.{Item}
use Rattle.ia32_insn.specs.declared.item.Item.TheVariants as item
use Rattle.ia32_insn.specs.Items.{near, plain}
use Rattle.flow_graph.specs.declared.op.Bits.{Bits}
use Rattle.flow_graph.specs.declared.op.Bits.TheVariants.{Eight, Sixteen, ThirtyTwo}
use Rattle.flow_graph.specs.Meaning.{bytes_of}
use Rattle.ia32_rows.specs.Placements.{below}
use Rattle.ia32_rows.specs.Moves.{read, target_of, write}
use Rattle.ia32_rows.specs.Computing.{low_byte}

-- ---- addresses

-- the address of the frame array that stands so far below EBP, by LEA
abbrev pub frame_row : Place → ℕ → List Item
frame_row result distance = plain (insn.Lea (target_of result) (below distance)) ∷ write result (target_of result)

-- the address of a static object
abbrev pub static_row : Place → ℕ → List Item
static_row result object = item.AddressOf (target_of result) object ∷ write result (target_of result)

-- ---- elements

-- an element to a register, one of fewer than 32 bits with its sign (Intel manual, volume 2, MOV and MOVSX)
abbrev pub loading : Bits → Reg32 → Mem → Insn
loading Eight t m = insn.MovSx8 t (rm8.Mem m)
loading Sixteen t m = insn.MovSx16 t (rm.Mem m)
loading ThirtyTwo t m = insn.MovLoad t m

-- and on to its place
abbrev pub load_from : Bits → Place → Mem → List Item
load_from bits result m = plain (loading bits (target_of result) m) ∷ write result (target_of result)

-- The low bits of the value's register to memory. ESI has no byte register, so its word goes to EAX and back for a
-- byte, by XCHG.
abbrev pub storing : Bits → Mem → Place → List Item
storing ThirtyTwo m value = plain (insn.Mov (rm.Mem m) (target_of value)) ∷ []
storing Sixteen m value = plain (insn.Mov16 (rm.Mem m) (target_of value)) ∷ []
storing Eight m (InWord r) = plain (insn.Mov8 (rm8.Mem m) (low_byte r)) ∷ []
storing Eight m (InByte r) = plain (insn.Mov8 (rm8.Mem m) r) ∷ []
storing Eight m (InSlot k) =
    plain (insn.Xchg (rm.Reg Esi) Eax) ∷ plain (insn.Mov8 (rm8.Mem m) Al) ∷ plain (insn.Xchg (rm.Reg Esi) Eax) ∷ []

-- the value to a register, unless it stands in one, and on to the address in EDI
abbrev pub store_to : Bits → Place → List Item
store_to bits value = read (target_of value) value ++ storing bits (near Edi 0) value

-- ---- static objects of one element

abbrev pub get_row : Bits → Place → ℕ → List Item
get_row bits result object = item.AddressOf Esi object ∷ load_from bits result (near Esi 0)

abbrev pub put_row : Bits → ℕ → Place → List Item
put_row bits object value = item.AddressOf Edi object ∷ store_to bits value

-- ---- elements of arrays

-- the register that an index is in: its own, or EDI
abbrev pub index_register : Place → Reg32
index_register (InWord r) = r
index_register (InByte r) = Edi
index_register (InSlot k) = Edi

-- the number of elements before those at a register's address
abbrev pub count_before : Reg32 → Mem
count_before array = record { base = Some array; index = None; disp = neg_ℤ (pos 4) }

-- an element, by the registers with the array's address and the index
abbrev pub element : ℕ → Reg32 → Reg32 → Mem
element width array index = record { base = Some array; index = Some (index, width); disp = pos 0 }

-- the array's address to a register, unless it stands in one; where there is no array, the trap of a failed check
abbrev pub check_array : Place → List Item
check_array array =
    read (target_of array) array
    ++ plain (insn.Test (rm.Reg (target_of array)) (target_of array)) ∷ item.JumpTrap (Some cond.E) ∷ []

-- The index to a register, unless it stands in one; where the array has no more elements than it, the trap. A negative
-- index is a great one, as a word without a sign.
abbrev pub check_index : Place → Place → List Item
check_index array index =
    read (index_register index) index
    ++ plain (insn.AluLoad alu.Cmp (index_register index) (count_before (target_of array)))
    ∷ item.JumpTrap (Some cond.Ae)
    ∷ []

-- both checks, before anything is touched
abbrev pub checking : Place → Place → List Item
checking array index = check_array array ++ check_index array index

abbrev pub load_row : Bits → Place → Place → Place → List Item
load_row bits result array index =
    checking array index ++ load_from bits result (element (bytes_of bits) (target_of array) (index_register index))

-- A value in a register goes to memory directly. Any other by ESI, which the element's address may need: so this goes to
-- EDI before.
abbrev pub store_at : Bits → Mem → Place → List Item
store_at bits m (InWord r) = storing bits m (InWord r)
store_at bits m (InByte r) = plain (insn.Lea Edi m) ∷ store_to bits (InByte r)
store_at bits m (InSlot k) = plain (insn.Lea Edi m) ∷ store_to bits (InSlot k)

abbrev pub store_row : Bits → Place → Place → Place → List Item
store_row bits array index value =
    checking array index ++ store_at bits (element (bytes_of bits) (target_of array) (index_register index)) value
