-- Expressions in a list, as arguments.
use Rattle.std.specs.Prelude.{List, [], ◌∷◌}
use Rattle.c_tree.specs.Program.{Expression, Arguments, NoMore, Argument}

abbrev pub arguments_from : List Expression → Arguments
arguments_from [] = NoMore
arguments_from (e ∷ es) = Argument e (arguments_from es)
