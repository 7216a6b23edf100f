use Rattle.std.proofs.Common.{rules}
use Rattle.ia32_emit.proofs.loads.loading.Goals as goal

pub returns-in-Eight : goal.returns-in-Eight
returns-in-Eight c = search rules
