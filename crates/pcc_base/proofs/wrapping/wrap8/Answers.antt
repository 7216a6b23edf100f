use Rattle.std.proofs.Common.{rules, arith}
use Rattle.std.proofs.lemmas.Int.{ints}
use Rattle.pcc_base.proofs.wrapping.wrap8.Goals as goal

pub wrapped-requires-clause-positive : goal.wrapped-requires-clause-positive
wrapped-requires-clause-positive c = search rules

pub wrapped-requires-clause-small : goal.wrapped-requires-clause-small
wrapped-requires-clause-small c = search rules

pub overflow_cast-result : goal.overflow_cast-result
overflow_cast-result c = omega (arith, ints, c.wrapped.ensures.above, c.wrapped.ensures.below)

pub returns : goal.returns
returns c = search rules
