use Rattle.std.proofs.Common.{arith}
use Rattle.std.proofs.lemmas.Grind.{common_steps}
use Rattle.ia32_emit.proofs.shifts.emit_dividing.Goals as goal

pub returns : goal.returns
returns c = grind (arith, common_steps)
