use Rattle.std.proofs.Common.{rules}
use Rattle.ia32_emit.proofs.returns.emit_undeepen.Goals as goal

pub returns : goal.returns
returns c = search rules
