use Rattle.std.proofs.Common.{sym, ap, ◌∙◌, subst, arith, ◌+◌, ◌≤◌, [], ◌++◌, length, map, drop}
use Rattle.c_syntax.specs.Statements.{label_of, stmt_of, stmts_of}
use Rattle.c_typing.specs.Statements.{given_label, given_labels, typed_labels}
use Rattle.c_check_statements.specs.Labels.{AreSoFar}
use Rattle.c_check_statements.proofs.Sorted.{all_labels, next_statement}
use Rattle.c_check_statements.proofs.labels.switch_labels.Goals as goal

pub statements-init : goal.statements-init
statements-init c = c.new-so_far.ensures
    (given_labels c.args.scopes.now 0 (stmts_of (map stmt_of c.args.items.now))) c.args.notes.now

pub statements-preserved : goal.statements-preserved
statements-preserved c =
    let s = c.args.scopes.now in
    let xs = c.args.items.now in
    let i = c.statements.index in
    let x = c.index-items-index.result in
    let rest = given_labels s (i + 1) (stmts_of (map stmt_of (drop (i + 1) xs))) in
    let whole = typed_labels [] (given_labels s 0 (stmts_of (map stmt_of xs))) in
    c.in_ok-so_far.ensures whole rest c.args.notes.now
    (subst (λ gs. AreSoFar whole gs c.statements.so_far c.args.notes.now c.statements.notes)
    (next_statement s xs i x c.statements-test.true c.index-items-index.is
    ∙ ap (λ ls. map (given_label s i) ls ++ rest) (sym c.labels_before.ensures)
    ∙ ap (λ n. map (given_label s n) (map label_of c.labels_before.result.now) ++ rest) (sym c.in_ok-before.ensures))
    c.statements.invariant)

pub returns : goal.returns
returns c =
    let s = c.args.scopes.now in
    let xs = c.args.items.now in
    let past : length xs ≤ c.statements.index = omega (arith, c.statements-test.false) in
    all_labels s xs c.statements.index c.statements.so_far
    (typed_labels [] (given_labels s 0 (stmts_of (map stmt_of xs)))) c.args.notes.now c.statements.notes past
    c.statements.invariant
