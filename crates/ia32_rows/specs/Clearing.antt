-- The row that makes every element of a frame array 0, and how many bytes that is.
use Rattle.std.specs.Prelude.{◌+◌, ◌-◌, ◌*◌, ◌/◌, ℕ, pos, List, [], ◌∷◌}
use Rattle.ia32_insn.specs.declared.register_names.Reg32.TheVariants.{Esi, Edi}
use Rattle.ia32_insn.specs.declared.operand.Rm32.TheVariants as rm
use Rattle.ia32_insn.specs.declared.insn.AluOp.TheVariants as alu
use Rattle.ia32_insn.specs.declared.insn.Cond.TheVariants as cond
use Rattle.ia32_insn.specs.declared.insn.Insn.TheVariants as insn
use Rattle.ia32_insn.specs.declared.item.Item.{Item}
use Rattle.ia32_insn.specs.declared.item.Item.TheVariants as item
use Rattle.ia32_insn.specs.Items.{near, plain}
use Rattle.ia32_rows.specs.Placements.{below}

-- the bytes of an array's elements, up to the end of their last word, where these are the bytes of one and their number
abbrev pub size_of : ℕ × ℕ → ℕ
size_of array = (array.0 * array.1 + 3) / 4 * 4

-- The elements stand from so far below EBP on and take so many bytes, a multiple of 4 and at least one word. A loop
-- over their words, from the last one down: ESI is behind the word that is next, and EDI at the first. The label is
-- the loop's.
abbrev pub clear_row : ℕ → ℕ → ℕ → List Item
clear_row label distance bytes =
    plain (insn.Lea Edi (below distance))
    ∷ plain (insn.Lea Esi (below (distance - bytes)))
    ∷ item.Label label
    ∷ plain (insn.AluImm alu.Sub (rm.Reg Esi) (pos 4))
    ∷ plain (insn.MovImm (rm.Mem (near Esi 0)) (pos 0))
    ∷ plain (insn.Alu alu.Cmp (rm.Reg Esi) Edi)
    ∷ item.JumpIf cond.Ne label
    ∷ []
