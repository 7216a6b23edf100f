use Rattle.std.proofs.Common.{arith}
use Rattle.std.proofs.lemmas.Grind.{common_steps}
use Rattle.c_check_expressions.proofs.calls.called.Goals as goal

pub returns-in_ok-call_of-in-Fits : goal.returns-in_ok-call_of-in-Fits
returns-in_ok-call_of-in-Fits c = grind (arith, common_steps)
