-- An array is given the elements of a string.
use Rattle.std.specs.Prelude.{ℕ, suc, List, [], ◌∷◌}
use Rattle.c_tree.specs.declared.types.IntegerType.{IntegerType}
use Rattle.flow_graph.specs.declared.op.Comparison.TheVariants.{Lt}
use Rattle.flow_graph.specs.declared.op.Op.TheVariants as op
use Rattle.lower_lines.specs.Lines.{Line, Emit, Start}
use Rattle.lower_lines.specs.Parts.{bits_of}
use Rattle.lower_lines.specs.Statements.{copying, text_count}
use Rattle.lower_lines.specs.Variables.{Context, ForOld, ForScratch, own, temporary}

-- the loop that copies a string, behind the index of the first element, how many are copied, and 1
abbrev pub copy_lines : Context → IntegerType → ℕ → List Line
copy_lines c t block =
    let to = own c 0 in
    let from = own c 1 in
    let element = temporary c 0 ForOld in
    Emit (op.Jump block) ∷ Start block
    ∷ Emit (op.Load (bits_of t) element from.array to.number) ∷ Emit (op.Store (bits_of t) to.array to.number element)
    ∷ Emit (op.Add to.number to.number (temporary c 0 ForScratch))
    ∷ Emit (op.Branch Lt to.number from.number block (suc block)) ∷ Start (suc block) ∷ []

-- an array that is cleared is given the elements of a string
abbrev pub text_lines : Context → ℕ → IntegerType → ℕ → ℕ → List Line
text_lines c k t object block = Emit (op.Static (own c 1).array object)
    ∷ copying c t (text_count c k object) block
