-- Rows of arguments as lists.
use Rattle.std.proofs.Common.{◌≡◌, map, refl, ap}
use Rattle.c_tree.specs.declared.expression.Expression.{Row_of-Expression, end_of-Expression, more_of-Expression}
use Rattle.c_tree.specs.declared.expression.Expression.{items-the_row-Expression}
use Rattle.c_tree.specs.Erased.{expression_of, arguments_of}
use Rattle.c_tree.specs.Program.{Argument}
use Rattle.c_check.specs.Lists.{arguments_from}

pub arguments_are : {m : _} (row : Row_of-Expression m)
    → arguments_of row ≡ arguments_from (map expression_of (items-the_row-Expression m row))
arguments_are end_of-Expression = refl
arguments_are (more_of-Expression e rest) = ap (Argument (expression_of e)) (arguments_are rest)
