use Rattle.std.proofs.Common.{rules}
use Rattle.ia32_memory.proofs.area.Area.allows.Goals as goal

pub returns-then-address-self : goal.returns-then-address-self
returns-then-address-self c = search rules
