use Rattle.std.proofs.Common.{length}
use Rattle.c_parse.specs.Passing.{Passed}
use Rattle.c_parse.proofs.keywords.first_outside.Given as goal

abbrev pub invariant-tokens : goal.invariant-tokens
invariant-tokens l = Passed l.fn.tokens l.rest

abbrev pub decreases-tokens : goal.decreases-tokens
decreases-tokens l = length l.rest
