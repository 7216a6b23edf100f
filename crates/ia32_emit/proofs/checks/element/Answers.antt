use Rattle.std.proofs.Common.{rules}
use Rattle.ia32_emit.proofs.checks.element.Goals as goal

pub returns-in-Sixteen : goal.returns-in-Sixteen
returns-in-Sixteen c = search rules
