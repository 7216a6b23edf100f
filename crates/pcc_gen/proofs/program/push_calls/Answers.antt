use Rattle.pcc_gen.proofs.Following.{call_put, no_calls}
use Rattle.pcc_gen.proofs.program.push_calls.Goals as goal

pub loop-number-preserved : goal.loop-number-preserved
loop-number-preserved c = call_put _ _ _ _ c.loop-number.invariant c.in_ok-push_call.ensures

pub loop-number-init : goal.loop-number-init
loop-number-init c = no_calls _
