use Rattle.std.proofs.Common.{rules}
use Rattle.c_tree.specs.declared.expression.Expression.TheViews.{the_lemmas}
use Rattle.c_eval.proofs.Rows.{row_is}
use Rattle.c_eval.proofs.expressions.take_apart.Goals as goal

-- src/expressions.rt:18:1
pub returns-in_ok-next-in-Call : goal.returns-in_ok-next-in-Call
returns-in_ok-next-in-Call c = search (rules, the_lemmas, row_is)
