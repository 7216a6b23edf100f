use Rattle.std.proofs.Common.{subst}
use Rattle.c_typing.specs.Rows.{assigned}
use Rattle.c_check_expressions.specs.Judged.{IsJudged}
use Rattle.c_check_expressions.proofs.Together.{operand_stands}
use Rattle.c_check_expressions.proofs.Answered.{grown_quiet}
use Rattle.c_check_expressions.proofs.Quiet.{quiet_assigned}
use Rattle.c_check_statements.proofs.conditions.value_returned.Goals as goal

pub returns : goal.returns
returns c = λ e notes is.
    let row = assigned c.args.of c.args.at e in
    c.some.ensures row notes notes (c.tree_of.ensures row notes notes (
      operand_stands row c.assigned.result
          (subst (λ x. IsJudged (assigned c.args.of c.args.at x) c.assigned.result) is.0 c.assigned.ensures),
      grown_quiet row notes (quiet_assigned c.args.of c.args.at e),
    ))
