use Rattle.std.proofs.Common.{sym, subst}
use Rattle.std.proofs.lemmas.Result.{IfOk-weaker}
use Rattle.c_tree.specs.Erased.{statement_of}
use Rattle.c_typing.specs.Statements.{jump, one}
use Rattle.c_check_expressions.specs.Said.{IsSaid}
use Rattle.c_check_statements.specs.Answers.{AreListed}
use Rattle.c_check_statements.proofs.jumps.jump.Goals as goal

pub returns-then-may : goal.returns-then-may
returns-then-may c = IfOk-weaker c.one.result _ _ (λ j row notes.
    subst (λ b. IsSaid AreListed (one (jump b c.args.at (statement_of c.args.statement))) j notes notes)
    (sym c.if-may.true) (row notes)) c.one.ensures
