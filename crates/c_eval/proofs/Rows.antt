-- Rows of arguments as lists.
use Rattle.std.proofs.Common.{◌≡◌, ap, refl}
use Rattle.c_tree.specs.Erased.{expression_of, arguments_of}
use Rattle.c_tree.specs.Program.{Arguments, Argument}
use Rattle.c_tree.specs.declared.expression.Expression.{Row_of-Expression, end_of-Expression, more_of-Expression}
use Rattle.c_tree.specs.declared.expression.Expression.{items-the_row-Expression}
use Rattle.c_eval_state.specs.Views.{arguments_list}

-- a row of arguments as a list
pub row_is : {m : _} (row : Row_of-Expression m) → arguments_of row ≡ arguments_list (items-the_row-Expression m row)
row_is end_of-Expression = refl
row_is (more_of-Expression e rest) = ap (λ (es : Arguments). Argument (expression_of e) es) (row_is rest)
