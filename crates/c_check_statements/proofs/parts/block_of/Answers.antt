use Rattle.std.proofs.Common.{rules}
use Rattle.c_tree.specs.declared.statement.Statement.TheViews.{the_lemmas}
use Rattle.c_tree.proofs.Rows.{statements_are}
use Rattle.c_check_statements.proofs.parts.block_of.Goals as goal

pub returns : goal.returns
returns c = search (rules, the_lemmas, statements_are)
