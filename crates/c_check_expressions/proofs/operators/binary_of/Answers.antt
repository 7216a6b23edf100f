use Rattle.c_tree.specs.Erased.{boxed_of}
use Rattle.c_typing.specs.Rows.{binary_row}
use Rattle.c_check_expressions.specs.Said.{AreOperandsOf}
use Rattle.c_check_expressions.proofs.Quiet.{quiet_binary}
use Rattle.c_check_expressions.proofs.Answered.{row_ok, same_pair}
use Rattle.c_check_expressions.proofs.operators.binary_of.Goals as goal

pub returns-in-Fits : goal.returns-in-Fits
returns-in-Fits c = row_ok AreOperandsOf (λ o. (boxed_of o.0.tree, boxed_of o.1.tree))
    (λ e. binary_row c.args.op c.args.at e.0 e.1)
    (λ e o h. same_pair _ _ e h.0.0 h.1.0) (λ e. quiet_binary c.args.op c.args.at e.0 e.1) c.args.parts
    (c.in-Fits.left, c.in-Fits.right) c.in-Fits.is c.binary.result c.binary.ensures
