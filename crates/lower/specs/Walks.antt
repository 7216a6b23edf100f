-- What the walk over statements adds.
use Rattle.std.specs.Prelude.{◌≡◌, ℕ, ◌+◌, Bool, true, false, List, ◌∷◌, ◌++◌, Option, Some, None}
use Rattle.c_tree.specs.declared.statement.Label.{Label}
use Rattle.flow_graph.specs.declared.op.Op.TheVariants as op
use Rattle.lower_builder.specs.Built.{Built, Adds}
use Rattle.lower_lines.specs.Lines.{Line, Emit}
use Rattle.lower_lines.specs.Parts.{Part, operand}
use Rattle.lower_lines.specs.Statements.{After, cases_of, comparing, comparing_blocks, default_block}
use Rattle.lower_lines.specs.Statements.{exit_blocks, exit_of, labelled_before}
use Rattle.lower_lines.specs.Variables.{Context}

-- Where the blocks that were named ahead are right behind lines, they are before them, and these lines were added.
abbrev pub AddsIf : Bool → Bool → Built → Built → ℕ → List Line → Type 0
AddsIf old new s t blocks lines = new ≡ true → (old ≡ true) × Adds s t blocks lines

abbrev pub has_start : Option ℕ → Bool
has_start None = false
has_start (Some block) = true

-- a switch up to its body, which has so many statements
abbrev pub switch_blocks : Context → Part → List Label → ℕ → After → ℕ
switch_blocks c e labels statements after = exit_blocks after + (labelled_before labels statements
    + comparing_blocks (cases_of 0 labels labels) + (operand c true e).blocks)

abbrev pub switch_front : Context → ℕ → Part → List Label → ℕ → ℕ → After → List Line
switch_front c n e labels statements block after =
    let exit = exit_of block after in
    let first = block + exit_blocks after in
    let cases = cases_of first labels labels in
    let tests = first + labelled_before labels statements in
    let value = tests + comparing_blocks cases in
    let x = operand c true e in
    Emit (op.Mark n) ∷ (x.lines value 0
    ++ comparing c (x.spot 0).number (default_block exit first labels) cases tests)
