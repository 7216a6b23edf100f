use Rattle.std.proofs.Common.{Ok, sym, subst}
use Rattle.c_tree.specs.Erased.{boxed_of}
use Rattle.c_typing.specs.Checked.{if_fits}
use Rattle.c_typing.specs.Rows.{assigned}
use Rattle.c_check_expressions.specs.Judged.{IsOperandOf}
use Rattle.c_check_expressions.specs.Said.{IsSaid}
use Rattle.c_check_expressions.proofs.Quiet.{quiet_assigned}
use Rattle.c_check_expressions.proofs.Answered.{row_ok}
use Rattle.c_check_declarations.specs.InitialValues.{row_within}
use Rattle.c_check_declarations.proofs.initial_value.assigned_within.Goals as goal

pub returns-then-room : goal.returns-then-room
returns-then-room c = λ part before after said.
    subst (λ b. IsSaid IsOperandOf (if_fits part (row_within b (assigned c.args.to) c.args.at)) c.assigned.result
    before after) (sym c.if-room.true)
    (row_ok IsOperandOf (λ o. boxed_of o.tree) (assigned c.args.to c.args.at) (λ e o h. h.0)
    (quiet_assigned c.args.to c.args.at) c.args.part c.in-Fits.operand c.in-Fits.is (Ok c.assigned.result)
    c.assigned.ensures part before after said)
