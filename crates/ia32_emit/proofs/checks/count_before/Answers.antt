use Rattle.std.proofs.Common.{rules}
use Rattle.ia32_emit.proofs.checks.count_before.Goals as goal

pub returns : goal.returns
returns c = search rules
