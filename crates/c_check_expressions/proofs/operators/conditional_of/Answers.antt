use Rattle.c_tree.specs.Erased.{boxed_of}
use Rattle.c_typing.specs.Rows.{conditional_row}
use Rattle.c_check_expressions.specs.Said.{AreThreeOperandsOf}
use Rattle.c_check_expressions.proofs.Quiet.{quiet_conditional}
use Rattle.c_check_expressions.proofs.Answered.{row_ok, same_three}
use Rattle.c_check_expressions.proofs.operators.conditional_of.Goals as goal

pub returns-in-Fits : goal.returns-in-Fits
returns-in-Fits c = row_ok AreThreeOperandsOf
    (λ o. (boxed_of o.0.tree, (boxed_of o.1.0.tree, boxed_of o.1.1.tree)))
    (λ e. conditional_row c.args.at e.0 e.1.0 e.1.1)
    (λ e o h. same_three _ _ _ e h.0.0 h.1.0.0 h.1.1.0) (λ e. quiet_conditional c.args.at e.0 e.1.0 e.1.1) c.args.parts
    (c.in-Fits.test, c.in-Fits.others) c.in-Fits.is c.conditional.result c.conditional.ensures
