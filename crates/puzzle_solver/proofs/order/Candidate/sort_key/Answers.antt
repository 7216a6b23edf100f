use Rattle.std.proofs.Common.{rules}
use Rattle.puzzle_solver.proofs.order.Candidate.sort_key.Goals as goal

pub returns-in-Some : goal.returns-in-Some
returns-in-Some c = search rules
