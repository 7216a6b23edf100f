use Rattle.c_tree.specs.Erased.{boxed_of}
use Rattle.c_typing.specs.Rows.{assignment_row, place_named}
use Rattle.c_check_expressions.specs.Said.{AreOperandsOf}
use Rattle.c_check_expressions.proofs.Quiet.{quiet_assignment}
use Rattle.c_check_expressions.proofs.Answered.{row_ok, same_pair}
use Rattle.c_check_expressions.proofs.operators.assignment_of.Goals as goal

pub returns-in-Fits : goal.returns-in-Fits
returns-in-Fits c = row_ok AreOperandsOf (λ o. (boxed_of o.0.tree, boxed_of o.1.tree))
    (λ e. assignment_row c.args.op c.args.at (place_named e.0) e.1)
    (λ e o h. same_pair _ _ e h.0.0 h.1.0)
    (λ e. quiet_assignment c.args.op c.args.at (place_named e.0) e.1) c.args.parts
    (c.in-Fits.target, c.in-Fits.value) c.in-Fits.is c.assignment.result c.assignment.ensures
