-- Trees that are listed in memory.
use Rattle.std.specs.Prelude.{List, [], ◌∷◌}
use Rattle.c_tree.specs.declared.expression.Expression as built
use Rattle.c_tree.specs.Erased.{expression_of}
use Rattle.c_tree.specs.Program.{Arguments, NoMore, Argument}

-- expressions of a list, as arguments
abbrev pub arguments_list : List built.Expression → Arguments
arguments_list [] = NoMore
arguments_list (e ∷ es) = Argument (expression_of e) (arguments_list es)
