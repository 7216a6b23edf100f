use Rattle.std.proofs.Common.{rules}
use Rattle.c_tree.specs.declared.expression.Expression.TheViews.{the_lemmas}
use Rattle.c_check.proofs.Rows.{arguments_are}
use Rattle.c_check.proofs.expression_heights.+expression.Goals as goal

pub expression-returns-in-Call : goal.expression-returns-in-Call
expression-returns-in-Call t c = search (rules, the_lemmas, arguments_are)

pub expression-returns-in-Assign : goal.expression-returns-in-Assign
expression-returns-in-Assign t c =
    let parts = c.in_turn.ensures _ _ c.place-in-Assign.ensures c.expression-in-Assign.ensures in
    let all = c.on_one.ensures _ parts in
    search (rules, the_lemmas, all)

pub expression-returns-in-Conditional : goal.expression-returns-in-Conditional
expression-returns-in-Conditional t c =
    let chosen = c.higher-chosen.ensures _ _ c.expression.ensures c.expression-in-Conditional.ensures in
    let all = c.higher.ensures _ _ c.expression-in-Conditional-2.ensures chosen in
    search (rules, the_lemmas, all)
