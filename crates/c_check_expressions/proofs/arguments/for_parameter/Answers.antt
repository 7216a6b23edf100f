use Rattle.std.proofs.Common.{Ok, sym, subst}
use Rattle.c_tree.specs.Erased.{boxed_of}
use Rattle.c_typing.specs.Rows.{assigned}
use Rattle.c_check_expressions.specs.Judged.{IsOperandOf}
use Rattle.c_check_expressions.specs.Arguments.{for_parameter}
use Rattle.c_check_expressions.specs.Said.{IsSaid}
use Rattle.c_check_expressions.proofs.Quiet.{quiet_assigned}
use Rattle.c_check_expressions.proofs.Answered.{row_ok}
use Rattle.c_check_expressions.proofs.arguments.for_parameter.Goals as goal

pub returns-in-Some-Fits : goal.returns-in-Some-Fits
returns-in-Some-Fits c = λ part before after said. let to = c.in-Some-Fits.to in
    subst (λ p. IsSaid IsOperandOf (for_parameter p c.args.at part) c.assigned.result before after)
    (sym c.in-Some-Fits.is-0)
    (row_ok IsOperandOf (λ o. boxed_of o.tree) (assigned to c.args.at) (λ e o h. h.0)
    (quiet_assigned to c.args.at) c.args.part c.in-Some-Fits.operand c.in-Some-Fits.is-1 (Ok c.assigned.result)
    c.assigned.ensures part before after said)
