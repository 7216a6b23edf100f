use Rattle.c_tree.specs.Erased.{boxed_of}
use Rattle.c_typing.specs.Rows.{unary_row}
use Rattle.c_check_expressions.specs.Judged.{IsOperandOf}
use Rattle.c_check_expressions.proofs.Quiet.{quiet_unary}
use Rattle.c_check_expressions.proofs.Answered.{row_ok}
use Rattle.c_check_expressions.proofs.operators.unary_of.Goals as goal

pub returns-in-Fits : goal.returns-in-Fits
returns-in-Fits c = row_ok IsOperandOf (λ o. boxed_of o.tree) (unary_row c.args.op c.args.at) (λ e o h. h.0)
    (quiet_unary c.args.op c.args.at) c.args.part c.in-Fits.operand c.in-Fits.is c.unary.result c.unary.ensures
