use Rattle.std.proofs.Common.{rules}
use Rattle.ia32_emit.proofs.comparisons.cond_of.Goals as goal

pub returns-in-Lt : goal.returns-in-Lt
returns-in-Lt c = search rules
