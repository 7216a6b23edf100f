use Rattle.std.proofs.Common.{rules}
use Rattle.lower.proofs.started_blocks.next_after.Goals as goal

pub returns-in-Some-clause-inside : goal.returns-in-Some-clause-inside
returns-in-Some-clause-inside c = search rules
