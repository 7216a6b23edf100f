use Rattle.std.proofs.Common.{arith}
use Rattle.std.proofs.lemmas.Grind.{common_steps}
use Rattle.lower_builder.proofs.sites.spots_of.Goals as goal

pub loop-local-preserved : goal.loop-local-preserved
loop-local-preserved c = grind (arith, common_steps)

pub returns-clause-listed : goal.returns-clause-listed
returns-clause-listed c = grind (arith, common_steps)

pub returns-clause-counted : goal.returns-clause-counted
returns-clause-counted c = grind (arith, common_steps)
