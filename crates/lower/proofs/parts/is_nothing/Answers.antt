use Rattle.std.proofs.Common.{rules}
use Rattle.c_tree.specs.declared.statement.Statement.TheViews.{the_lemmas}
use Rattle.c_tree.proofs.Rows.{statements_are}
use Rattle.lower.proofs.parts.is_nothing.Goals as goal

pub returns-in-Block : goal.returns-in-Block
returns-in-Block c = λ k. search (rules, the_lemmas, statements_are)
