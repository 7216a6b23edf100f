use Rattle.std.proofs.Common.{refl, ap, ◌∙◌, subst, ℤ, Option}
use Rattle.c_check_expressions.specs.Said.{IsSaid}
use Rattle.c_check_declarations.specs.DeclaratorAnswers.{IsSame}
use Rattle.c_check_declarations.specs.Together.{items_answered, one_behind}
use Rattle.c_check_statements.proofs.Sorted.{label_fails, label_fits}
use Rattle.c_check_statements.proofs.labels.SoFar.add.Goals as goal

pub returns-in_ok-labels-in-Fails : goal.returns-in_ok-labels-in-Fails
returns-in_ok-labels-in-Fails c = λ whole g left start between after at_is before_is said so.
    label_fails whole g left c.args.self _ c.in-Fails.fault start between after refl c.in_ok-labels-in-Fails.ensures
    (subst (λ p. IsSaid (IsSame {A = Option ℤ}) g.value p between after) c.in-Fails.is said) so

pub returns-in_ok-labels-in-Fits : goal.returns-in_ok-labels-in-Fits
returns-in_ok-labels-in-Fits c = λ whole g left start between after at_is before_is said so.
    label_fits whole g left c.args.self _ c.in-Fits.value c.in_ok-is_new-in-Fits.is_new c.args.at c.args.before
    c.one_label.result start between after c.in_ok-is_new-in-Fits.ensures.kept c.one_label.ensures
    (c.in_ok-labels-in-Fits.ensures
    ∙ ap (λ l. one_behind (items_answered l) c.one_label.result) c.in_ok-is_new-in-Fits.ensures.labels)
    at_is before_is (subst (λ p. IsSaid (IsSame {A = Option ℤ}) g.value p between after) c.in-Fits.is said) so
