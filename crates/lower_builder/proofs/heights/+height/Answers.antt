use Rattle.std.proofs.Common.{arith, rules}
use Rattle.std.proofs.lemmas.Grind.{common_steps}
use Rattle.c_tree.specs.declared.expression.Expression.TheViews.{the_lemmas}
use Rattle.lower_builder.proofs.Rows.{row_is}
use Rattle.lower_builder.proofs.heights.+height.Goals as goal

pub height-returns-in-Call : goal.height-returns-in-Call
height-returns-in-Call t c = search (rules, the_lemmas, row_is)

pub height-returns-in-Assign : goal.height-returns-in-Assign
height-returns-in-Assign t c =
    let parts = c.in_turn.ensures _ _ c.place_height-in-Assign.ensures c.height-in-Assign.ensures in
    let all = c.on_one.ensures _ parts in
    search (rules, the_lemmas, all)

pub height-returns-in-Conditional : goal.height-returns-in-Conditional
height-returns-in-Conditional t c =
    let chosen = c.higher-chosen.ensures _ _ c.height.ensures c.height-in-Conditional.ensures in
    let all = c.higher.ensures _ _ c.height-in-Conditional-2.ensures chosen in
    search (rules, the_lemmas, all)

pub arguments_height-loop-e-preserved : goal.arguments_height-loop-e-preserved
arguments_height-loop-e-preserved t c = grind (arith, common_steps)

pub arguments_height-returns : goal.arguments_height-returns
arguments_height-returns t c = grind (arith, common_steps)
