use Rattle.c_tree.specs.Erased.{boxed_of}
use Rattle.c_typing.specs.Rows.{cast_row}
use Rattle.c_check_expressions.specs.Said.{AreCastOf}
use Rattle.c_check_expressions.proofs.Quiet.{quiet_cast}
use Rattle.c_check_expressions.proofs.Answered.{row_ok, same_pair}
use Rattle.c_check_expressions.proofs.operators.cast_of.Goals as goal

pub returns-in-Fits : goal.returns-in-Fits
returns-in-Fits c = row_ok AreCastOf (λ o. (o.0, boxed_of o.1.tree)) (λ e. cast_row c.args.at e.0 e.1)
    (λ e o h. same_pair _ _ e h.0 h.1.0) (λ e. quiet_cast c.args.at e.0 e.1) c.args.parts
    (c.in-Fits.to, c.in-Fits.operand) c.in-Fits.is c.cast.result c.cast.ensures
