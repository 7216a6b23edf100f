-- What was judged of the values so far, and the rest, are all values.
use Rattle.std.proofs.Common.{map, drop}
use Rattle.c_typing.specs.Initialisers.{values_for}
use Rattle.c_typing.specs.Rows.{assigned}
use Rattle.c_check_expressions.specs.Arguments.{given_of}
use Rattle.c_check_declarations.proofs.Lists.{Gathered}
use Rattle.c_check_declarations.proofs.PushedTrees.{AreTreesOf}
use Rattle.c_check_declarations.proofs.initial_values.trees.Given as goal

abbrev pub invariant-loop-e : goal.invariant-loop-e
invariant-loop-e l = Gathered AreTreesOf
    (values_for (assigned l.to) l.room (map (given_of l.scopes) l.values))
    (values_for (assigned l.to) l.free (map (given_of l.scopes) (drop l.e-index l.values)))
    l.trees l.initial.notes l.notes
