use Rattle.std.proofs.Common.{arith}
use Rattle.std.proofs.lemmas.Grind.{common_steps}
use Rattle.ia32_emit.proofs.calls.emit_pass_all.Goals as goal

pub loop-done-preserved : goal.loop-done-preserved
loop-done-preserved c = grind (arith, common_steps)
