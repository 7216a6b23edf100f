use Rattle.std.proofs.Common.{arith}
use Rattle.std.proofs.lemmas.Grind.{common_steps}
use Rattle.puzzle_solver.proofs.wide_shares.Plan.of.Goals as goal

pub returns : goal.returns
returns c = grind (arith, common_steps)
