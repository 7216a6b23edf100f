-- What is known behind so many arguments.
use Rattle.std.proofs.Common.{map}
use Rattle.c_check_expressions.specs.Arguments.{given_of}
use Rattle.c_check_expressions.proofs.Gathering.{Gathered}
use Rattle.c_check_expressions.proofs.walk.+walked.Given as goal

abbrev pub invariant-each_argument-arguments : goal.invariant-each_argument-arguments
invariant-each_argument-arguments l = Gathered l.parameters (map (given_of l.scopes) l.values) l.index l.so_far.values
    l.so_far.typed l.fn.notes l.notes
