-- The arguments of a call from a place on, as their parameters take them.
use Rattle.std.specs.Prelude.{ℕ, List, drop}
use Rattle.c_tree.specs.declared.expression.Expression as built
use Rattle.c_tree.specs.Program.{Local}
use Rattle.lower_lines.specs.Expressions.{all_passed, parts_of}
use Rattle.lower_lines.specs.Parts.{Part}
use Rattle.lower_lines.specs.Variables.{Context}
use Rattle.lower_expressions.specs.Rows.{arguments_list}

abbrev pub passed_from : Context → List Local → List built.Expression → ℕ → List Part
passed_from c parameters arguments place =
    all_passed c (drop place parameters) (parts_of c (arguments_list (drop place arguments)))
