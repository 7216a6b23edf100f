use Rattle.std.proofs.Common.{arith, rules}
use Rattle.std.proofs.lemmas.Grind.{common_steps}
use Rattle.lower.proofs.turns.open_do.Goals as goal

pub returns-clause-exit : goal.returns-clause-exit
returns-clause-exit c = search rules

pub returns-clause-start : goal.returns-clause-start
returns-clause-start c = search rules

pub returns-clause-adds : goal.returns-clause-adds
returns-clause-adds c = grind (arith, common_steps)
