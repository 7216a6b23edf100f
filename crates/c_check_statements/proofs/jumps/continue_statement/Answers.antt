use Rattle.std.proofs.Common.{subst, ℕ}
use Rattle.std.proofs.lemmas.Result.{IfOk-weaker}
use Rattle.c_tree.specs.Program as tree
use Rattle.c_typing.specs.Statements.{jump, one}
use Rattle.c_check_expressions.specs.Said.{IsSaid}
use Rattle.c_check_statements.specs.Answers.{AreListed}
use Rattle.c_check_statements.proofs.jumps.continue_statement.Goals as goal

pub returns-clause-said : goal.returns-clause-said
returns-clause-said c = IfOk-weaker c.jump.result _ _ (λ j row notes.
    subst (λ (n : ℕ). IsSaid AreListed
    (one (jump c.args.may c.args.at (tree.Continue n))) j notes notes)
    c.in_ok-number.ensures.0 (row notes))
    c.jump.ensures
