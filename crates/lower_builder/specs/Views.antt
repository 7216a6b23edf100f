-- What it is that the lines of parts and operands were added.
use Rattle.std.specs.Prelude.{ℕ, suc, ◌+◌, List, [], ◌∷◌, pos}
use Rattle.flow_graph.specs.declared.op.Op.TheVariants as op
use Rattle.lower_lines.specs.Lines.{Line, Start, Emit}
use Rattle.lower_lines.specs.Variables.{Context}
use Rattle.lower_builder.specs.Built.{Built, Adds}
use Rattle.lower_lines.specs.Parts.{Wanted, Part, Operand, target}
use Rattle.lower_builder.specs.MoveViews.{plain}

-- the lines of a part were added, and its blocks taken
abbrev pub AddsPart : Part → ℕ → Wanted → Built → Built → Type 0
AddsPart part level wanted old new = Adds old new (part.blocks (plain wanted)) (part.lines old.next level wanted)

-- the lines of an operand were added, and its blocks taken
abbrev pub AddsOperand : Operand → ℕ → Built → Built → Type 0
AddsOperand x level old new = Adds old new x.blocks (x.lines old.next level)

-- what stands behind a test that gives a truth value
abbrev pub truth_end : Context → ℕ → ℕ → Wanted → List Line
truth_end c block level wanted =
    let x = (target c level wanted).number in
    Start block ∷ Emit (op.Const x (pos 1)) ∷ Emit (op.Jump (block + 2))
    ∷ Start (suc block) ∷ Emit (op.Const x (pos 0)) ∷ Emit (op.Jump (block + 2)) ∷ Start (block + 2) ∷ []
