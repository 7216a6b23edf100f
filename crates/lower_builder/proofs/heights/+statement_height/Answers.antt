use Rattle.std.proofs.Common.{arith, rules}
use Rattle.std.proofs.lemmas.Grind.{common_steps}
use Rattle.c_tree.specs.declared.statement.Statement.TheViews.{the_lemmas}
use Rattle.c_tree.proofs.Rows.{statements_are}
use Rattle.lower_builder.proofs.heights.+statement_height.Goals as goal

pub statement_height-returns-in-Block : goal.statement_height-returns-in-Block
statement_height-returns-in-Block t c = search (rules, the_lemmas, statements_are)

pub statement_height-returns-in-If : goal.statement_height-returns-in-If
statement_height-returns-in-If t c =
    let branches = c.higher-branches.ensures _ _ c.statement_height.ensures c.statement_height-in-If.ensures in
    let all = c.higher.ensures _ _ c.height-in-If.ensures branches in
    search (rules, the_lemmas, all)

pub statement_height-returns-in-For : goal.statement_height-returns-in-For
statement_height-returns-in-For t c =
    let once = c.higher-once.ensures _ _ c.first_height.ensures c.statement_height-in-For.ensures in
    let turn = c.higher-in-For.ensures _ _ c.option_height.ensures c.option_height-in-For.ensures in
    let all = c.higher-in-For-2.ensures _ _ once turn in
    search (rules, the_lemmas, all)

pub statement_height-returns-in-Switch : goal.statement_height-returns-in-Switch
statement_height-returns-in-Switch t c =
    let value = c.on_one.ensures _ c.height-in-Switch.ensures in
    let all = c.higher-in-Switch.ensures _ _ value c.statements_height-in-Switch.ensures in
    search (rules, the_lemmas, statements_are, all)

pub statements_height-loop-s-preserved : goal.statements_height-loop-s-preserved
statements_height-loop-s-preserved t c = grind (arith, common_steps)

pub statements_height-returns : goal.statements_height-returns
statements_height-returns t c = grind (arith, common_steps)
