use Rattle.c_grammar.proofs.StatementComplete.{one_tree}
use Rattle.c_grammar.proofs.laws.one_raw_tree.Goals as goal

pub returns : goal.returns
returns c = one_tree
