use Rattle.std.proofs.Common.{rules}
use Rattle.c_tree.specs.declared.statement.Statement.TheViews.{the_lemmas}
use Rattle.c_eval_state.proofs.Stacking.{statements_are}
use Rattle.c_eval.proofs.statements.go_behind_test.Goals as goal

pub returns-in-Switch : goal.returns-in-Switch
returns-in-Switch c = search (rules, the_lemmas, statements_are)
