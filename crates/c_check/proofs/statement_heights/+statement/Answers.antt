use Rattle.std.proofs.Common.{rules}
use Rattle.c_tree.specs.declared.statement.Statement.TheViews.{the_lemmas}
use Rattle.c_tree.proofs.Rows.{statements_are}
use Rattle.c_check.proofs.statement_heights.+statement.Goals as goal

pub statement-returns-in-Block : goal.statement-returns-in-Block
statement-returns-in-Block t c = search (rules, the_lemmas, statements_are)

pub statement-returns-in-If : goal.statement-returns-in-If
statement-returns-in-If t c =
    let branches = c.higher-branches.ensures _ _ c.statement.ensures c.statement-in-If.ensures in
    let all = c.higher.ensures _ _ c.expression-in-If.ensures branches in
    search (rules, the_lemmas, all)

pub statement-returns-in-For : goal.statement-returns-in-For
statement-returns-in-For t c =
    let once = c.higher-once.ensures _ _ c.first.ensures c.statement-in-For.ensures in
    let turn = c.higher-in-For.ensures _ _ c.if_any.ensures c.if_any-in-For.ensures in
    let all = c.higher-in-For-2.ensures _ _ once turn in
    search (rules, the_lemmas, all)

pub statement-returns-in-Switch : goal.statement-returns-in-Switch
statement-returns-in-Switch t c =
    let value = c.on_one.ensures _ c.expression-in-Switch.ensures in
    let all = c.higher-in-Switch.ensures _ _ value c.statements-in-Switch.ensures in
    search (rules, the_lemmas, statements_are, all)
