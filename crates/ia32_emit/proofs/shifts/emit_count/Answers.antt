use Rattle.std.proofs.Common.{rules}
use Rattle.ia32_emit.proofs.shifts.emit_count.Goals as goal

pub returns-in-Slot : goal.returns-in-Slot
returns-in-Slot c = search rules
