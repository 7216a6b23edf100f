use Rattle.std.proofs.Common.{Ok}
use Rattle.c_tree.specs.Erased.{boxed_of}
use Rattle.c_tree.specs.Program.{value_type}
use Rattle.c_typing.specs.Checked.{if_fits}
use Rattle.c_typing.specs.Rows.{selected}
use Rattle.c_check_expressions.specs.Judged.{IsOperandOf}
use Rattle.c_check_expressions.proofs.Answered.{row_ok}
use Rattle.c_check_statements.proofs.QuietRows.{quiet_selected}
use Rattle.c_check_statements.proofs.conditions.selected_tree.Goals as goal

pub returns-in-Fits : goal.returns-in-Fits
returns-in-Fits c = λ part before after said.
    c.tree_of.ensures (if_fits part (λ x. selected (value_type x) c.args.at x)) before after
    (row_ok IsOperandOf (λ o. boxed_of o.tree) (λ x. selected (value_type x) c.args.at x) (λ e o h. h.0)
    (quiet_selected c.args.at) c.args.part c.in-Fits.operand c.in-Fits.is (Ok c.selected.result) c.selected.ensures
    part before after said)
