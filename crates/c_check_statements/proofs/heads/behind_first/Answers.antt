use Rattle.std.proofs.lemmas.Result.{IfOk-weaker}
use Rattle.c_syntax.specs.Declarations.{maybe_expr_of}
use Rattle.c_typing.specs.Checked.{pair}
use Rattle.c_typing.specs.Statements.{condition_if_any}
use Rattle.c_check_statements.proofs.heads.behind_first.Goals as goal

pub returns : goal.returns
returns c = IfOk-weaker c.and_step.result _ _ (λ j row part before said. row
    (pair part (condition_if_any c.args.scopes.now c.args.at (maybe_expr_of c.args.condition.now))) before
    (c.in_ok-start.ensures part before said)) c.and_step.ensures
