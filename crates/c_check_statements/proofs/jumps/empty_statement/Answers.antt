use Rattle.std.proofs.Common.{subst, ℕ}
use Rattle.std.proofs.lemmas.Result.{IfOk-weaker}
use Rattle.c_tree.specs.Program as tree
use Rattle.c_typing.specs.Checked.{fits}
use Rattle.c_typing.specs.Statements.{one}
use Rattle.c_check_expressions.specs.Said.{IsSaid}
use Rattle.c_check_statements.specs.Answers.{AreListed}
use Rattle.c_check_statements.proofs.jumps.empty_statement.Goals as goal

pub returns-clause-said : goal.returns-clause-said
returns-clause-said c = IfOk-weaker c.one.result _ _ (λ j row notes.
    subst (λ (n : ℕ). IsSaid AreListed (one (fits (tree.Empty n))) j notes notes) c.in_ok-number.ensures.0 (row notes))
    c.one.ensures
