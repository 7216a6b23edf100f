-- An operator on a value that stands in a spot and on a second operand, which is evaluated a level above.
use Rattle.std.specs.Prelude.{ℕ, suc, ◌+◌, true, List, ◌++◌}
use Rattle.c_tree.specs.declared.expression.BinaryOp.{BinaryOp}
use Rattle.c_tree.specs.declared.types.ValueType.{ValueType}
use Rattle.lower_lines.specs.Lines.{Line}
use Rattle.lower_lines.specs.Operators.{applied, applied_blocks}
use Rattle.lower_lines.specs.Parts.{Part, Wanted, operand}
use Rattle.lower_lines.specs.Variables.{Context, Spot}

abbrev pub operating_blocks : Context → Wanted → BinaryOp → ValueType → Part → ℕ
operating_blocks c wanted operator of b = (operand c true b).blocks + applied_blocks wanted operator of b.of

abbrev pub operating : Context → ℕ → ℕ → Wanted → BinaryOp → ValueType → Spot → Part → List Line
operating c block level wanted operator of x b =
    let y = operand c true b in
    y.lines block (suc level) ++ applied c (block + y.blocks) level wanted operator of b.of x (y.spot (suc level))
