use Rattle.pcc_gen.proofs.Following.{at_first_function, function_put, function_next, no_functions}
use Rattle.pcc_gen.proofs.functions.push_functions.Goals as goal

pub loop-number-preserved : goal.loop-number-preserved
loop-number-preserved c =
    let so_far = c.loop-number.invariant in
    let put = c.in_ok-push_function.ensures in (
      function_put _ _ _ _ _ _ so_far.0 so_far.1 put.text,
      function_next _ _ _ _ so_far.1 put.next,
    )

pub loop-number-init : goal.loop-number-init
loop-number-init c = (no_functions _ _, at_first_function _)
