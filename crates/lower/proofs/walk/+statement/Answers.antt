-- Each arm puts together what its calls add.
use Rattle.std.proofs.Common.{rules, sym, ap, ◌≡◌, ◌∙◌, ◌<◌, length, subst, OnOk}
use Rattle.std.specs.Prelude.{option_map}
use Rattle.c_tree.specs.Erased.{boxed_of, expression_of, first_of, statement_of, statements_of}
use Rattle.c_tree.specs.Program as typed
use Rattle.c_tree.specs.declared.statement.Statement.{Statement}
use Rattle.c_tree.specs.declared.statement.Statement.TheViews.{the_lemmas}
use Rattle.c_tree.proofs.Rows.{statements_are}
use Rattle.lower.specs.Walks.{AddsIf}
use Rattle.lower.specs.StartedBlocks.{starts_at}
use Rattle.lower.proofs.Arms.{do-arm, for-arm, if-none-arm, if-some-arm, since, while-arm}
use Rattle.lower.proofs.Switched.{switch-none, switch-some}
use Rattle.lower.proofs.Ordered.{row-first, row-more, row-none}
use Rattle.lower_lines.specs.Statements.{run_of}
use Rattle.lower_builder.specs.Sites.{context_of}
use Rattle.lower_expressions.specs.Views.{after_of, exits_of}
use Rattle.lower.proofs.walk.+statement.Goals as goal

pub sequence-body-init : goal.sequence-body-init
sequence-body-init t c = record {
  rests = row-first (context_of c.args.site.now) (starts_at c.args.starts.now) c.args.body.now (exits_of c.args.exits)
      (after_of c.args.after) c.args.ahead.now c.args.lines.now (search rules);
}

pub sequence-body-preserved : goal.sequence-body-preserved
sequence-body-preserved t c = record {
  rests = row-more (context_of c.args.site.now) (starts_at c.args.starts.now) c.args.body.now c.body.place
      c.index-body-place.result _ (exits_of c.args.exits) (after_of c.args.after)
      (after_of c.next_after-next.result) c.body-test.true c.index-body-place.is c.next_after-next.ensures.inside
      c.next_after-next.ensures.last c.body.invariant.rests c.in_ok-start_labelled.ensures
      c.in_ok-statement.ensures;
}

pub sequence-returns : goal.sequence-returns
sequence-returns t c = row-none (context_of c.args.site.now) (starts_at c.args.starts.now) c.args.body.now c.body.place
    (exits_of c.args.exits) (after_of c.args.after) c.body-test.false c.body.invariant.rests

pub statement-returns-in-Block : goal.statement-returns-in-Block
statement-returns-in-Block t c =
    let is : statement_of c.args.s.now ≡ typed.Block (statements_of c.as_slice.result.now) =
    search (rules, the_lemmas, statements_are) in
    subst (λ (x : typed.Statement). OnOk c.sequence.result (AddsIf c.args.ahead.now c.sequence.new.ahead
    c.args.lines.now c.sequence.new.lines ((run_of (context_of c.args.site.now) x).blocks (after_of c.args.after))
    ((run_of (context_of c.args.site.now) x).lines (exits_of c.args.exits) c.args.lines.now.next
    (after_of c.args.after)))) (sym is) c.sequence.ensures

pub statement-returns-then-nothing : goal.statement-returns-then-nothing
statement-returns-then-nothing t c =
    let is : statement_of c.args.s.now ≡ typed.If c.in-If.n (expression_of c.deref-in-If-2.result.now)
    (statement_of c.deref-in-If-3.result.now) (statement_of c.deref-in-If.result.now) = search (rules, the_lemmas) in
    since c.in_ok-place-in-If.ensures (if-none-arm (context_of c.args.site.now) c.in-If.n
    (expression_of c.deref-in-If-2.result.now) (statement_of c.deref-in-If-3.result.now)
    (statement_of c.deref-in-If.result.now) (exits_of c.args.exits) (after_of c.args.after)
    c.is_nothing-nothing.result c.in_ok-place-in-If.named c.in_ok-exit-in-If.exit is
    (c.is_nothing-nothing.ensures (context_of c.args.site.now)) c.if-nothing.true c.in_ok-exit-in-If.ensures.exit
    c.in_ok-exit-in-If.ensures.adds c.in_ok-statement-in-If.ensures c.in_ok-start_exit-in-If.ensures)

pub statement-returns-in_ok-start_exit-in-If-2 : goal.statement-returns-in_ok-start_exit-in-If-2
statement-returns-in_ok-start_exit-in-If-2 t c =
    let is : statement_of c.args.s.now ≡ typed.If c.in-If.n (expression_of c.deref-in-If-2.result.now)
    (statement_of c.deref-in-If-3.result.now) (statement_of c.deref-in-If-4.result.now) = search (rules, the_lemmas) in
    let same : c.deref-in-If.result.now ≡ c.deref-in-If-4.result.now = search rules in
    since c.in_ok-place-in-If.ensures (if-some-arm (context_of c.args.site.now) c.in-If.n
    (expression_of c.deref-in-If-2.result.now) (statement_of c.deref-in-If-3.result.now)
    (statement_of c.deref-in-If-4.result.now) (exits_of c.args.exits) (after_of c.args.after)
    c.is_nothing-nothing.result c.in_ok-place-in-If.named c.in_ok-exit-in-If.exit is
    (c.is_nothing-nothing.ensures (context_of c.args.site.now)
    ∙ ap (λ (x : Statement). (run_of (context_of c.args.site.now) (statement_of x)).nothing) same) c.if-nothing.false
    c.in_ok-exit-in-If.ensures.exit c.in_ok-exit-in-If.ensures.adds c.in_ok-statement-in-If.ensures
    c.in_ok-start_second-in-If.ensures.named c.in_ok-start_second-in-If.ensures.adds
    c.in_ok-statement-in-If-2.ensures c.in_ok-start_exit-in-If-2.ensures)

pub statement-returns-in_ok-start_exit-in-While : goal.statement-returns-in_ok-start_exit-in-While
statement-returns-in_ok-start_exit-in-While t c =
    let is : statement_of c.args.s.now ≡ typed.While c.in-While.n (expression_of c.deref-in-While.result.now)
    (statement_of c.deref-in-While-2.result.now) = search (rules, the_lemmas) in
    while-arm (context_of c.args.site.now) c.in-While.n (expression_of c.deref-in-While.result.now)
    (statement_of c.deref-in-While-2.result.now) (exits_of c.args.exits) (after_of c.args.after)
    c.in_ok-ends-in-While.ends.exit c.in_ok-ends-in-While.ends.start is c.in_ok-ends-in-While.ensures.exit
    c.in_ok-ends-in-While.ensures.start c.in_ok-ends-in-While.ensures.adds c.in_ok-statement-in-While.ensures
    c.in_ok-start_exit-in-While.ensures

pub statement-returns-in_ok-start_exit-in-Do : goal.statement-returns-in_ok-start_exit-in-Do
statement-returns-in_ok-start_exit-in-Do t c =
    let is : statement_of c.args.s.now ≡ typed.Do c.in-Do.n (statement_of c.deref-in-Do.result.now)
    (expression_of c.deref-in-Do-2.result.now) = search (rules, the_lemmas) in
    do-arm (context_of c.args.site.now) c.in-Do.n (expression_of c.deref-in-Do-2.result.now)
    (statement_of c.deref-in-Do.result.now) (exits_of c.args.exits) (after_of c.args.after)
    c.in_ok-ends-in-Do.ends.exit c.in_ok-ends-in-Do.ends.start c.in_ok-test-in-Do.test is
    c.in_ok-ends-in-Do.ensures.exit c.in_ok-ends-in-Do.ensures.start c.in_ok-test-in-Do.ensures
    c.in_ok-ends-in-Do.ensures.adds c.in_ok-statement-in-Do.ensures c.in_ok-close_do-in-Do.ensures
    c.in_ok-start_exit-in-Do.ensures

pub statement-returns-in_ok-start_exit-in-For : goal.statement-returns-in_ok-start_exit-in-For
statement-returns-in_ok-start_exit-in-For t c =
    let is : statement_of c.args.s.now ≡ typed.For c.in-For.n (first_of c.in-For.first)
    (option_map boxed_of c.in-For.test) (option_map boxed_of c.in-For.step)
    (statement_of c.deref-in-For.result.now) = search (rules, the_lemmas) in
    since c.in_ok-place-in-For.ensures (for-arm (context_of c.args.site.now) c.in-For.n (first_of c.in-For.first)
    (option_map boxed_of c.in-For.test) (option_map boxed_of c.in-For.step)
    (statement_of c.deref-in-For.result.now) (exits_of c.args.exits) (after_of c.args.after)
    c.in_ok-ends-in-For.ends.exit c.in_ok-ends-in-For.ends.start c.in_ok-place-in-For.named c.again-to.result is
    c.in_ok-ends-in-For.ensures.exit c.in_ok-ends-in-For.ensures.start c.again-to.ensures
    c.in_ok-ends-in-For.ensures.adds c.in_ok-statement-in-For.ensures c.in_ok-close_for-in-For.ensures.named
    c.in_ok-close_for-in-For.ensures.adds c.in_ok-start_exit-in-For.ensures)

pub statement-returns-then-is_empty : goal.statement-returns-then-is_empty
statement-returns-then-is_empty t c =
    let is : statement_of c.args.s.now ≡ typed.Switch c.in-Switch.n (expression_of c.deref-in-Switch.result.now)
    c.as_slice-in-Switch.result.now (statements_of c.in-Switch.body.items) = search (rules, the_lemmas, statements_are)
    in
    let none : length c.in-Switch.body.items ≡ 0 = search rules in
    let count : c.len.result ≡ length c.in-Switch.body.items = search rules in
    switch-none (context_of c.args.site.now) c.in-Switch.n (expression_of c.deref-in-Switch.result.now)
    c.as_slice-in-Switch.result.now c.in-Switch.body.items (exits_of c.args.exits) (after_of c.args.after)
    c.in_ok-ways-in-Switch.ways.exit c.len.result is none count c.in_ok-ways-in-Switch.ensures.exit
    c.in_ok-ways-in-Switch.ensures.adds c.in_ok-start_exit-in-Switch.ensures

pub statement-returns-in_ok-start_exit-in-Switch-2 : goal.statement-returns-in_ok-start_exit-in-Switch-2
statement-returns-in_ok-start_exit-in-Switch-2 t c =
    let is : statement_of c.args.s.now ≡ typed.Switch c.in-Switch.n (expression_of c.deref-in-Switch.result.now)
    c.as_slice-in-Switch.result.now (statements_of c.as_slice-in-Switch-4.result.now) =
    search (rules, the_lemmas, statements_are) in
    let first-same : c.as_slice-in-Switch-2.result.now ≡ c.in_ok-ways-in-Switch.ways.starts.items = search rules in
    let row-same : c.as_slice-in-Switch-3.result.now ≡ c.in_ok-ways-in-Switch.ways.starts.items = search rules in
    let some : 0 < length c.as_slice-in-Switch-4.result.now = search rules in
    let count : c.len.result ≡ length c.as_slice-in-Switch-4.result.now = search rules in
    switch-some (context_of c.args.site.now) c.in-Switch.n (expression_of c.deref-in-Switch.result.now)
    c.as_slice-in-Switch.result.now c.as_slice-in-Switch-4.result.now c.in_ok-ways-in-Switch.ways.starts.items
    c.as_slice-in-Switch-2.result.now c.as_slice-in-Switch-3.result.now
    (exits_of c.args.exits) (after_of c.args.after) c.in_ok-ways-in-Switch.ways.exit c.len.result is some count
    c.in_ok-ways-in-Switch.ensures.exit c.in_ok-ways-in-Switch.ensures.starts c.in_ok-ways-in-Switch.ensures.adds
    first-same row-same c.in_ok-open_body-in-Switch.ensures c.in_ok-sequence-in-Switch.ensures
    c.in_ok-start_exit-in-Switch-2.ensures
