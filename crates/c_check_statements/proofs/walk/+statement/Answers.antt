-- Each statement inside is judged by the walk, and put together outside it.
use Rattle.std.proofs.Common.{rules, ◌≡◌, ◌∙◌, ◌+◌, ◌≤◌, refl, sym, ap, subst, arith, [], map, drop, length}
use Rattle.std.proofs.Common.{IfOk}
use Rattle.std.proofs.lemmas.Result.{IfOk-weaker}
use Rattle.c_syntax.specs.declared.statement.Statement.TheFolds.{fold-roll-Statement, fold_out-Statement}
use Rattle.c_syntax.specs.declared.statement.Statement.TheViews.{the_lemmas}
use Rattle.c_syntax.specs.Declarations.{declaration_of, maybe_expr_of}
use Rattle.c_syntax.specs.Expressions.{expr_of}
use Rattle.c_syntax.specs.Statements as trees
use Rattle.c_syntax.specs.Statements.{stmt_of, stmts_of}
use Rattle.c_tree.specs.Erased.{statement_of}
use Rattle.c_tree.specs.Program as tree
use Rattle.c_tree.specs.Program.{Done, value_type}
use Rattle.c_typing.specs.Checked.{both, fits, if_fits, three}
use Rattle.c_typing.specs.Expressions.{typed_expression, typed_if_any}
use Rattle.c_typing.specs.Names.{entered, left}
use Rattle.c_typing.specs.Rows.{selected}
use Rattle.c_typing.specs.Statements.{after_declaration, after_statement, alone, condition, condition_if_any}
use Rattle.c_typing.specs.Statements.{first_part, for_loop, given_labels, in_loop, in_switch, one, typed_labels}
use Rattle.c_typing.specs.Statements.{typed_statement, typed_statements}
use Rattle.c_typing.specs.Types.{InFor}
use Rattle.c_check_expressions.specs.Said.{IsSaid}
use Rattle.c_check_declarations.proofs.Itemised.{on_ok}
use Rattle.c_check_statements.specs.Answers.{AreListed, AreStatements}
use Rattle.c_check_statements.specs.Views.{around_of}
use Rattle.c_check_statements.proofs.Arms.{around_number, at_number, branch_number}
use Rattle.c_check_statements.proofs.Following.{gathered_all, gathered_more, gathered_none, next_scope, next_typed}
use Rattle.c_check_statements.proofs.Following.{none_scope, none_typed}
use Rattle.c_check_statements.proofs.Leaving.{left_block, left_for}
use Rattle.c_check_statements.proofs.walk.+statement.Goals as goal

pub one_more-returns-in-Ok-clause-said : goal.one_more-returns-in-Ok-clause-said
one_more-returns-in-Ok-clause-said t c = IfOk-weaker c.joined.result _ _ (λ j row front before said.
    row front (typed_statement (around_of c.args.around) (stmt_of c.args.st.now) c.args.scopes.now) before
    c.args.notes.now c.statement.new.notes said c.in-Ok.ensures.said) c.joined.ensures

pub if_behind-returns-in-Ok-clause-said : goal.if_behind-returns-in-Ok-clause-said
if_behind-returns-in-Ok-clause-said t c = IfOk-weaker c.if_only.result _ _ (λ j row part before said.
    row part (typed_statement (around_of c.args.around) (stmt_of c.args.st.now) c.args.scopes.now) before
    c.args.notes.now c.statement.new.notes said c.in-Ok.ensures.said) c.if_only.ensures

pub branch_behind-returns-in-Ok-clause-said : goal.branch_behind-returns-in-Ok-clause-said
branch_behind-returns-in-Ok-clause-said t c = λ part before said. c.first_branch.ensures.said
    part (typed_statement (around_of c.args.around) (stmt_of c.args.st.now) c.args.scopes.now) before
    c.args.notes.now c.statement.new.notes said c.in-Ok.ensures.said

pub else_behind-returns-in-Ok-clause-said : goal.else_behind-returns-in-Ok-clause-said
else_behind-returns-in-Ok-clause-said t c = IfOk-weaker c.if_else.result _ _ (λ j row part first before said.
    row part first (typed_statement (around_of c.args.around) (stmt_of c.args.st.now) c.args.scopes.now) before
    c.args.notes.now c.statement.new.notes said c.in-Ok.ensures.said) c.if_else.ensures

pub switch_behind-returns-in-Ok-clause-said : goal.switch_behind-returns-in-Ok-clause-said
switch_behind-returns-in-Ok-clause-said t c = IfOk-weaker c.switch.result _ _ (λ j row part labels before said.
    row part labels (typed_statements (around_of c.args.around) (stmts_of (map stmt_of c.args.items.now))
    (entered c.args.scopes.now)) before c.args.notes.now c.within.new.notes said c.in-Ok.ensures.said)
    c.switch.ensures

pub while_behind-returns-in-Ok-clause-said : goal.while_behind-returns-in-Ok-clause-said
while_behind-returns-in-Ok-clause-said t c = IfOk-weaker c.while_loop.result _ _ (λ j row part before said.
    row part (typed_statement (around_of c.args.around) (stmt_of c.args.st.now) c.args.scopes.now) before
    c.args.notes.now c.statement.new.notes said c.in-Ok.ensures.said) c.while_loop.ensures

pub do_before-returns-in-Ok-clause-said : goal.do_before-returns-in-Ok-clause-said
do_before-returns-in-Ok-clause-said t c = IfOk-weaker c.do_loop.result _ _ (λ j row part said.
    row (typed_statement (around_of c.args.around) (stmt_of c.args.st.now) c.args.scopes.now) part
    c.args.notes.now c.in-Ok.ensures.said said) c.do_loop.ensures

pub for_behind-returns-in-Ok-clause-said : goal.for_behind-returns-in-Ok-clause-said
for_behind-returns-in-Ok-clause-said t c = IfOk-weaker c.for_loop.result _ _ (λ j row a b d before said.
    row a b d (typed_statement (around_of c.args.around) (stmt_of c.args.st.now) c.args.scopes.now) before
    c.args.notes.now c.statement.new.notes said c.in-Ok.ensures.said) c.for_loop.ensures

-- ---- statements of a list

pub statements-each-init : goal.statements-each-init
statements-each-init t c = record {
  gathered = gathered_none
      (typed_statements (around_of c.args.around) (stmts_of (map stmt_of c.args.items.now)) c.args.scopes.now)
      c.new.result c.args.notes.now (ap (map statement_of) c.new.ensures.items);
  scope = refl;
}

pub statements-each-preserved : goal.statements-each-preserved
statements-each-preserved t c =
    let w = around_of c.args.around in
    let xs = c.args.items.now in
    let i = c.each.item-index in
    let x = c.item-item.result in
    let s = c.each.scopes in
    let u = c.one_more.new.scopes in
    record {
      gathered = gathered_more
          (typed_statements w (stmts_of (map stmt_of xs)) c.args.scopes.now)
          (typed_statements w (stmts_of (map stmt_of (drop i xs))) s)
          (typed_statements w (stmts_of (map stmt_of (drop (i + 1) xs))) u)
          (typed_statement w (stmt_of x) s) c.each.so_far c.in_ok-so_far.so_far c.args.notes.now c.each.notes
          c.one_more.new.notes
          (next_typed w s u xs i x c.each-test.true c.item-item.is c.in_ok-so_far.ensures.scope)
          c.in_ok-so_far.ensures.said c.each.invariant.gathered;
      scope = next_scope s u xs i x c.each-test.true c.item-item.is c.in_ok-so_far.ensures.scope
          ∙ c.each.invariant.scope;
    }

pub statements-returns-clause-said : goal.statements-returns-clause-said
statements-returns-clause-said t c =
    let w = around_of c.args.around in
    let xs = c.args.items.now in
    let past : length xs ≤ c.each.item-index = omega (arith, c.each-test.false) in
    gathered_all (typed_statements w (stmts_of (map stmt_of xs)) c.args.scopes.now)
    (typed_statements w (stmts_of (map stmt_of (drop c.each.item-index xs))) c.each.scopes) c.each.so_far
    c.args.notes.now c.each.notes (none_typed w c.each.scopes xs c.each.item-index past) c.each.invariant.gathered

pub statements-returns-clause-scope : goal.statements-returns-clause-scope
statements-returns-clause-scope t c =
    let xs = c.args.items.now in
    let past : length xs ≤ c.each.item-index = omega (arith, c.each-test.false) in
    sym (none_scope c.each.scopes xs c.each.item-index past) ∙ c.each.invariant.scope

-- ---- blocks

pub within-returns-clause-said : goal.within-returns-clause-said
within-returns-clause-said t c =
    subst (λ s. IsSaid AreStatements
    (typed_statements (around_of c.args.around) (stmts_of (map stmt_of c.args.items.now)) s) c.in_ok-body.body
    c.args.notes.now c.statements.new.notes) c.in_ok-mark.ensures.0 c.in_ok-body.ensures.said

pub within-returns-clause-scope : goal.within-returns-clause-scope
within-returns-clause-scope t c = left_block c.args.scopes.now c.enter.new.self c.statements.new.scopes
    c.leave.new.self (stmts_of (map stmt_of c.args.items.now)) c.in_ok-mark.mark.names c.in_ok-mark.mark.depth
    c.in_ok-mark.ensures.0 c.in_ok-body.ensures.scope c.leave.ensures c.in_ok-mark.ensures.1
    c.in_ok-mark.ensures.2

-- ---- arms

pub statement-returns-in_ok-head-in-If-clause-said : goal.statement-returns-in_ok-head-in-If-clause-said
statement-returns-in_ok-head-in-If-clause-said t c =
    let s = c.args.scopes.now in
    let w = around_of c.args.around in
    let e = expr_of c.deref-in-If.result.now in
    let st = stmt_of c.deref-in-If-2.result.now in
    let same : stmt_of c.args.st.now ≡ trees.If c.in-If.at c.in-If.opening e c.in-If.close st
    = search (rules, the_lemmas, fold-roll-Statement, fold_out-Statement) in
    subst (λ x. IfOk c.if_behind.result (λ j. IsSaid AreListed (typed_statement w x s) j c.args.notes.now
    c.if_behind.new.notes)) (sym same)
    (IfOk-weaker c.if_behind.result _ _ (λ j row. at_number (λ u n.
    one (both (condition s c.in-If.at e) (alone (typed_statement w st u)) (λ x a. fits (tree.If n x a (tree.Block
    Done))))) s
    c.test_head.new.scopes c.in_ok-head-in-If.head.number j c.args.notes.now c.if_behind.new.notes
    c.in_ok-head-in-If.ensures.scope c.in_ok-head-in-If.ensures.said.0
    (row (condition s c.in-If.at e) c.args.notes.now c.in_ok-head-in-If.ensures.said.1)) c.if_behind.ensures.said)

pub statement-returns-in_ok-head-in-If-clause-scope : goal.statement-returns-in_ok-head-in-If-clause-scope
statement-returns-in_ok-head-in-If-clause-scope t c =
    let s = c.args.scopes.now in
    let e = expr_of c.deref-in-If.result.now in
    let st = stmt_of c.deref-in-If-2.result.now in
    let same : stmt_of c.args.st.now ≡ trees.If c.in-If.at c.in-If.opening e c.in-If.close st
    = search (rules, the_lemmas, fold-roll-Statement, fold_out-Statement) in
    on_ok c.if_behind.result _ _ (λ h. h ∙ ap (after_statement st) c.in_ok-head-in-If.ensures.scope
    ∙ ap (λ x. after_statement x s) (sym same)) c.if_behind.ensures.scope

pub statement-returns-in_ok-head-in-While-clause-said : goal.statement-returns-in_ok-head-in-While-clause-said
statement-returns-in_ok-head-in-While-clause-said t c =
    let s = c.args.scopes.now in
    let w = around_of c.args.around in
    let e = expr_of c.deref-in-While.result.now in
    let st = stmt_of c.deref-in-While-2.result.now in
    let same : stmt_of c.args.st.now ≡ trees.While c.in-While.at c.in-While.opening e c.in-While.close st
    = search (rules, the_lemmas, fold-roll-Statement, fold_out-Statement) in
    subst (λ x. IfOk c.while_behind.result (λ j. IsSaid AreListed (typed_statement w x s) j c.args.notes.now
    c.while_behind.new.notes)) (sym same)
    (IfOk-weaker c.while_behind.result _ _ (λ j row. around_number (λ v u n.
    one (both (condition s c.in-While.at e) (alone (typed_statement v st u)) (λ x a. fits (tree.While n x a))))
    (around_of c.in_loop.result) (in_loop w) s
    c.test_head-in-While.new.scopes c.in_ok-head-in-While.head.number j c.args.notes.now c.while_behind.new.notes
    c.in_loop.ensures c.in_ok-head-in-While.ensures.scope c.in_ok-head-in-While.ensures.said.0
    (row (condition s c.in-While.at e) c.args.notes.now c.in_ok-head-in-While.ensures.said.1))
    c.while_behind.ensures.said)

pub statement-returns-in_ok-head-in-While-clause-scope : goal.statement-returns-in_ok-head-in-While-clause-scope
statement-returns-in_ok-head-in-While-clause-scope t c =
    let s = c.args.scopes.now in
    let e = expr_of c.deref-in-While.result.now in
    let st = stmt_of c.deref-in-While-2.result.now in
    let same : stmt_of c.args.st.now ≡ trees.While c.in-While.at c.in-While.opening e c.in-While.close st
    = search (rules, the_lemmas, fold-roll-Statement, fold_out-Statement) in
    on_ok c.while_behind.result _ _ (λ h. h ∙ ap (after_statement st) c.in_ok-head-in-While.ensures.scope
    ∙ ap (λ x. after_statement x s) (sym same)) c.while_behind.ensures.scope

pub statement-returns-in_ok-head-in-Do-clause-said : goal.statement-returns-in_ok-head-in-Do-clause-said
statement-returns-in_ok-head-in-Do-clause-said t c =
    let s = c.args.scopes.now in
    let w = around_of c.args.around in
    let e = expr_of c.deref-in-Do-3.result.now in
    let st = stmt_of c.deref-in-Do-4.result.now in
    let same : stmt_of c.args.st.now ≡ trees.Do c.deref-in-Do.result.now.at st c.deref-in-Do.result.now.until
    c.deref-in-Do.result.now.opening e c.deref-in-Do.result.now.close
    c.deref-in-Do.result.now.semicolon
    = search (rules, the_lemmas, fold-roll-Statement, fold_out-Statement) in
    subst (λ x. IfOk c.do_before.result (λ j. IsSaid AreListed (typed_statement w x s) j c.args.notes.now
    c.do_before.new.notes)) (sym same)
    (IfOk-weaker c.do_before.result _ _ (λ j row. around_number (λ v u n.
    one (both (alone (typed_statement v st u)) (condition s c.deref-in-Do.result.now.until e) (λ a x. fits (tree.Do n a
    x))))
    (around_of c.in_loop-in-Do.result) (in_loop w) s
    c.do_head.new.scopes c.in_ok-head-in-Do.head.number j c.args.notes.now c.do_before.new.notes
    c.in_loop-in-Do.ensures c.in_ok-head-in-Do.ensures.scope c.in_ok-head-in-Do.ensures.said.0
    (row (condition s c.deref-in-Do.result.now.until e) c.in_ok-head-in-Do.ensures.said.1)) c.do_before.ensures.said)

pub statement-returns-in_ok-head-in-Do-clause-scope : goal.statement-returns-in_ok-head-in-Do-clause-scope
statement-returns-in_ok-head-in-Do-clause-scope t c =
    let s = c.args.scopes.now in
    let e = expr_of c.deref-in-Do-3.result.now in
    let st = stmt_of c.deref-in-Do-4.result.now in
    let same : stmt_of c.args.st.now ≡ trees.Do c.deref-in-Do.result.now.at st c.deref-in-Do.result.now.until
    c.deref-in-Do.result.now.opening e c.deref-in-Do.result.now.close
    c.deref-in-Do.result.now.semicolon
    = search (rules, the_lemmas, fold-roll-Statement, fold_out-Statement) in
    on_ok c.do_before.result _ _ (λ h. h ∙ ap (after_statement st) c.in_ok-head-in-Do.ensures.scope
    ∙ ap (λ x. after_statement x s) (sym same)) c.do_before.ensures.scope

pub statement-returns-in_ok-head-in-For-clause-said : goal.statement-returns-in_ok-head-in-For-clause-said
statement-returns-in_ok-head-in-For-clause-said t c =
    let s = c.args.scopes.now in
    let w = around_of c.args.around in
    let a = maybe_expr_of c.deref-in-For-2.result.now.start in
    let b = maybe_expr_of c.deref-in-For-3.result.now.condition in
    let d = maybe_expr_of c.deref-in-For-4.result.now.step in
    let st = stmt_of c.deref-in-For-5.result.now in
    let same : stmt_of c.args.st.now ≡ trees.For c.deref-in-For.result.now.at c.deref-in-For.result.now.opening a
    c.deref-in-For.result.now.first b c.deref-in-For.result.now.second d
    c.deref-in-For.result.now.close st
    = search (rules, the_lemmas, fold-roll-Statement, fold_out-Statement) in
    subst (λ x. IfOk c.for_behind.result (λ j. IsSaid AreListed (typed_statement w x s) j c.args.notes.now
    c.for_behind.new.notes)) (sym same)
    (IfOk-weaker c.for_behind.result _ _ (λ j row. around_number (λ v u n.
    for_loop n (if_fits (typed_if_any s a) (λ x. fits (first_part x))) (condition_if_any s c.deref-in-For.result.now.at
    b)
    (typed_if_any s d) (alone (typed_statement v st u))) (around_of c.in_loop-in-For.result) (in_loop w) s
    c.for_head.new.scopes c.in_ok-head-in-For.head.number j c.args.notes.now c.for_behind.new.notes
    c.in_loop-in-For.ensures c.in_ok-head-in-For.ensures.scope c.in_ok-head-in-For.ensures.said.0
    (row (if_fits (typed_if_any s a) (λ x. fits (first_part x))) (condition_if_any s c.deref-in-For.result.now.at b)
    (typed_if_any s
    d) c.args.notes.now c.in_ok-head-in-For.ensures.said.1)) c.for_behind.ensures.said)

pub statement-returns-in_ok-head-in-For-clause-scope : goal.statement-returns-in_ok-head-in-For-clause-scope
statement-returns-in_ok-head-in-For-clause-scope t c =
    let s = c.args.scopes.now in
    let a = maybe_expr_of c.deref-in-For-2.result.now.start in
    let b = maybe_expr_of c.deref-in-For-3.result.now.condition in
    let d = maybe_expr_of c.deref-in-For-4.result.now.step in
    let st = stmt_of c.deref-in-For-5.result.now in
    let same : stmt_of c.args.st.now ≡ trees.For c.deref-in-For.result.now.at c.deref-in-For.result.now.opening a
    c.deref-in-For.result.now.first b c.deref-in-For.result.now.second d
    c.deref-in-For.result.now.close st
    = search (rules, the_lemmas, fold-roll-Statement, fold_out-Statement) in
    on_ok c.for_behind.result _ _ (λ h. h ∙ ap (after_statement st) c.in_ok-head-in-For.ensures.scope
    ∙ ap (λ x. after_statement x s) (sym same)) c.for_behind.ensures.scope

-- ---- two branches

pub statement-returns-in_ok-front-in-IfElse-clause-said : goal.statement-returns-in_ok-front-in-IfElse-clause-said
statement-returns-in_ok-front-in-IfElse-clause-said t c =
    let s = c.args.scopes.now in
    let w = around_of c.args.around in
    let e = expr_of c.deref-in-IfElse-3.result.now in
    let st = stmt_of c.deref-in-IfElse-4.result.now in
    let other = stmt_of c.deref-in-IfElse-5.result.now in
    let same : stmt_of c.args.st.now ≡ trees.IfElse c.deref-in-IfElse.result.now.at
    c.deref-in-IfElse.result.now.opening e c.deref-in-IfElse.result.now.close st
    c.deref-in-IfElse.result.now.otherwise other = search (rules, the_lemmas, fold-roll-Statement, fold_out-Statement)
    in
    let test = condition s c.deref-in-IfElse.result.now.at e in
    let u = c.test_head-in-IfElse.new.scopes in
    subst (λ x. IfOk c.else_behind.result (λ j. IsSaid AreListed (typed_statement w x s) j c.args.notes.now
    c.else_behind.new.notes)) (sym same)
    (IfOk-weaker c.else_behind.result _ _ (λ j row. branch_number (λ v y n.
    one (three test (alone (typed_statement w st v)) (alone (typed_statement w other y)) (λ x a b.
    fits (tree.If n x a b)))) (after_statement st) s u c.branch_behind.new.scopes
    c.in_ok-head-in-IfElse.head.number c.in_ok-front-in-IfElse.front.number j c.args.notes.now
    c.else_behind.new.notes c.in_ok-head-in-IfElse.ensures.scope c.in_ok-front-in-IfElse.ensures.scope
    c.in_ok-head-in-IfElse.ensures.said.0 c.in_ok-front-in-IfElse.ensures.number
    (row test (alone (typed_statement w st u)) c.args.notes.now
    (c.in_ok-front-in-IfElse.ensures.said test c.args.notes.now c.in_ok-head-in-IfElse.ensures.said.1)))
    c.else_behind.ensures.said)

-- ---- a switch

pub statement-returns-in_ok-head-in-Switch-clause-said : goal.statement-returns-in_ok-head-in-Switch-clause-said
statement-returns-in_ok-head-in-Switch-clause-said t c =
    let s = c.args.scopes.now in
    let w = around_of c.args.around in
    let e = expr_of c.deref-in-Switch-3.result.now in
    let sts = stmts_of (map stmt_of c.as_slice-list.result.now) in
    let same : stmt_of c.args.st.now ≡ trees.Switch c.deref-in-Switch.result.now.at
    c.deref-in-Switch.result.now.opening e c.deref-in-Switch.result.now.close
    c.deref-in-Switch.result.now.begin sts c.deref-in-Switch.result.now.end = search (
      rules,
      the_lemmas,
      fold-roll-Statement,
      fold_out-Statement,
    ) in
    let value = if_fits (typed_expression s e) (λ x. selected (value_type x) c.deref-in-Switch.result.now.at x) in
    let labels = typed_labels [] (given_labels s 0 sts) in
    subst (λ x. IfOk c.switch_behind.result (λ j. IsSaid AreListed (typed_statement w x s) j c.args.notes.now
    c.switch_behind.new.notes)) (sym same)
    (IfOk-weaker c.switch_behind.result _ _ (λ j row. around_number (λ v u n.
    one (three value labels (typed_statements v sts (entered u)) (λ x ls b. fits (tree.Switch n x ls b))))
    (around_of c.in_switch.result) (in_switch w) s c.switch_head.new.scopes c.in_ok-head-in-Switch.head.number j
    c.args.notes.now c.switch_behind.new.notes c.in_switch.ensures c.in_ok-head-in-Switch.ensures.scope
    c.in_ok-head-in-Switch.ensures.said.0
    (row value labels c.args.notes.now c.in_ok-head-in-Switch.ensures.said.1)) c.switch_behind.ensures.said)

-- ---- a `for` with a declaration

pub statement-returns-in_ok-part-in-ForDeclaration-clause-scope
    : goal.statement-returns-in_ok-part-in-ForDeclaration-clause-scope
statement-returns-in_ok-part-in-ForDeclaration-clause-scope t c =
    let s = c.args.scopes.now in
    let d = declaration_of c.deref-in-ForDeclaration-2.result.now.start in
    let st = stmt_of c.deref-in-ForDeclaration-5.result.now in
    let same : stmt_of c.args.st.now ≡ trees.ForDeclaration c.deref-in-ForDeclaration.result.now.at
    c.deref-in-ForDeclaration.result.now.opening d
    (maybe_expr_of c.deref-in-ForDeclaration-3.result.now.condition) c.deref-in-ForDeclaration.result.now.second
    (maybe_expr_of c.deref-in-ForDeclaration-4.result.now.step)
    c.deref-in-ForDeclaration.result.now.close st = search (rules, the_lemmas, fold-roll-Statement, fold_out-Statement)
    in
    left_for c.take_number.new.self c.enter.new.self c.declared_head.new.scopes
    c.for_behind-in-ForDeclaration.new.scopes c.leave.new.self d st c.in_ok-mark-in-ForDeclaration.mark.names
    c.in_ok-mark-in-ForDeclaration.mark.depth c.in_ok-mark-in-ForDeclaration.ensures.0
    c.in_ok-parts-in-ForDeclaration.ensures.scope c.in_ok-part-in-ForDeclaration.ensures.scope c.leave.ensures
    c.in_ok-mark-in-ForDeclaration.ensures.1 c.in_ok-mark-in-ForDeclaration.ensures.2
    ∙ ap (λ u. left u (after_statement st (after_declaration InFor d (entered u))))
    c.in_ok-number-in-ForDeclaration.ensures.1
    ∙ ap (λ x. after_statement x s) (sym same)

-- ---- `return`

pub statement-returns-in-Return-clause-said : goal.statement-returns-in-Return-clause-said
statement-returns-in-Return-clause-said t c =
    let s = c.args.scopes.now in
    let same : stmt_of c.args.st.now ≡ trees.Return c.in-Return.at (maybe_expr_of c.in-Return.e) c.in-Return.field-2
    = search (rules, the_lemmas, fold-roll-Statement, fold_out-Statement) in
    subst (λ x. IfOk c.return_statement.result (λ j. IsSaid AreListed
    (typed_statement (around_of c.args.around) x s) j c.args.notes.now c.return_statement.new.notes)) (sym same)
    c.return_statement.ensures.said
