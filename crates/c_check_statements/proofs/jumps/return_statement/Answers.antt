use Rattle.std.proofs.Common.{subst, ℕ}
use Rattle.std.proofs.lemmas.Result.{IfOk-weaker}
use Rattle.c_syntax.specs.Declarations.{maybe_expr_of}
use Rattle.c_tree.specs.Program as tree
use Rattle.c_typing.specs.Checked.{fits, if_fits}
use Rattle.c_typing.specs.Expressions.{typed_if_any}
use Rattle.c_typing.specs.Statements.{one, returned}
use Rattle.c_check_expressions.specs.Said.{IsSaid}
use Rattle.c_check_statements.specs.Answers.{AreListed}
use Rattle.c_check_statements.proofs.Chains.{then_then}
use Rattle.c_check_statements.proofs.jumps.return_statement.Goals as goal

pub returns-in-Ok-clause-said : goal.returns-in-Ok-clause-said
returns-in-Ok-clause-said c =
    let s = c.args.scopes.now in
    let value = typed_if_any s (maybe_expr_of c.args.e.now) in
    let row = returned c.args.of c.args.at in
    IfOk-weaker c.returning.result _ _ (λ j stands.
    subst (λ k. IsSaid AreListed (one k) j c.args.notes.now c.returned.new.notes)
    (then_then value row (λ y. fits (tree.Return s.next y)))
    (subst (λ (n : ℕ). IsSaid AreListed (one (if_fits (if_fits value row) (λ y. fits (tree.Return n y)))) j
    c.args.notes.now c.returned.new.notes) c.in-Ok.ensures.0
    (stands (if_fits value row) c.args.notes.now c.returned.new.notes c.in_ok-value.ensures))) c.returning.ensures
