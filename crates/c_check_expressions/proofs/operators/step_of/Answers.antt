use Rattle.c_tree.specs.Erased.{boxed_of}
use Rattle.c_typing.specs.Rows.{step_row, place_named}
use Rattle.c_check_expressions.specs.Judged.{IsOperandOf}
use Rattle.c_check_expressions.proofs.Quiet.{quiet_step}
use Rattle.c_check_expressions.proofs.Answered.{row_ok}
use Rattle.c_check_expressions.proofs.operators.step_of.Goals as goal

pub returns-in-Fits : goal.returns-in-Fits
returns-in-Fits c = row_ok IsOperandOf (λ o. boxed_of o.tree)
    (λ e. step_row c.args.op c.args.at (place_named e)) (λ e o h. h.0)
    (λ e. quiet_step c.args.op c.args.at (place_named e)) c.args.part c.in-Fits.operand c.in-Fits.is
    c.step.result c.step.ensures
