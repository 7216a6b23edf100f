use Rattle.std.proofs.Common.{rules}
use Rattle.ia32_decode.proofs.memory_fields.displacement.Goals as goal

pub returns-then-mode-eq1 : goal.returns-then-mode-eq1
returns-then-mode-eq1 c = search rules
