use Rattle.std.proofs.Common.{rules}
use Rattle.lower.proofs.turns.again.Goals as goal

pub returns-in-Some : goal.returns-in-Some
returns-in-Some c = search rules
