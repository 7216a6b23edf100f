-- What was judged of the values so far, and the rest, are all values.
use Rattle.std.proofs.Common.{map, drop}
use Rattle.c_typing.specs.Initialisers.{constant_for, values_for}
use Rattle.c_check_expressions.specs.Arguments.{given_of}
use Rattle.c_check_declarations.proofs.Lists.{AreTheSame, Gathered}
use Rattle.c_check_declarations.proofs.initial_values.constants.Given as goal

abbrev pub invariant-loop-e : goal.invariant-loop-e
invariant-loop-e l = Gathered AreTheSame
    (values_for (constant_for l.of) l.room (map (given_of l.scopes) l.values))
    (values_for (constant_for l.of) l.free (map (given_of l.scopes) (drop l.e-index l.values)))
    l.constants l.initial.notes l.notes
