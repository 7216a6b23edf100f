use Rattle.std.proofs.Common.{rules}
use Rattle.c_tree.specs.declared.statement.Statement.TheViews.{the_lemmas}
use Rattle.c_eval_state.proofs.Stacking.{statements_are}
use Rattle.c_eval.proofs.statements.start.Goals as goal

pub returns-in-Block : goal.returns-in-Block
returns-in-Block c = search (rules, the_lemmas, statements_are)
