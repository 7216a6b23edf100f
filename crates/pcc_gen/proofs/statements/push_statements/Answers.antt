use Rattle.pcc_gen.proofs.Following.{at_first_statement, no_statements, statement_put, statement_next}
use Rattle.pcc_gen.proofs.statements.push_statements.Goals as goal

pub loop-line-preserved : goal.loop-line-preserved
loop-line-preserved c =
    let so_far = c.loop-line.invariant in
    let put = c.in_ok-push_statement.ensures in (
      statement_put _ _ _ _ _ _ so_far.0 so_far.1 put.text,
      statement_next _ _ _ _ so_far.1 put.next,
    )

pub loop-line-init : goal.loop-line-init
loop-line-init c = (no_statements _ _, at_first_statement _)
