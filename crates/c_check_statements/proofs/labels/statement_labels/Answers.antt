use Rattle.std.proofs.Common.{subst, arith, ◌+◌, ◌≤◌, ◌++◌, length, map, drop}
use Rattle.c_syntax.specs.Statements.{label_of}
use Rattle.c_typing.specs.Statements.{given_label}
use Rattle.c_check_statements.specs.Labels.{AreSoFar}
use Rattle.c_check_statements.proofs.Sorted.{next_label, no_label, place_is}
use Rattle.c_check_statements.proofs.labels.statement_labels.Goals as goal

pub labels-init : goal.labels-init
labels-init c = λ whole left start so. so

pub labels-preserved : goal.labels-preserved
labels-preserved c = λ whole left start so.
    let s = c.args.scopes.now in
    let n = c.args.before in
    let ls = c.args.list.now in
    let i = c.labels.label-index in
    let l = c.label-item.result in
    c.in_ok-so_far.ensures whole (given_label s n (label_of l))
    (map (given_label s n) (map label_of (drop (i + 1) ls)) ++ left) start c.labels.notes c.label_value.new.notes
    (c.label_at.ensures s n) (place_is s n (label_of l)) (c.in_ok-value.ensures n)
    (subst (λ gs. AreSoFar whole gs c.labels.so_far start c.labels.notes)
    (next_label s n ls i l left c.labels-test.true c.label-item.is) (c.labels.invariant whole left start so))

pub returns : goal.returns
returns c = λ whole left start so.
    let ls = c.args.list.now in
    let past : length ls ≤ c.labels.label-index = omega (arith, c.labels-test.false) in
    subst (λ gs. AreSoFar whole gs c.labels.so_far start c.labels.notes)
    (no_label c.args.scopes.now c.args.before ls c.labels.label-index left past)
    (c.labels.invariant whole left start so)
