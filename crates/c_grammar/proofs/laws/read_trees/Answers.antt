use Rattle.c_grammar.proofs.SoundStatements.{unit_sound}
use Rattle.c_grammar.proofs.StatementComplete.{tree_read}
use Rattle.c_grammar.proofs.laws.read_trees.Goals as goal

pub returns : goal.returns
returns c = record { sound = unit_sound; complete = tree_read }
