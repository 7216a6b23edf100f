use Rattle.c_grammar.proofs.RisingStatements.{unit_rises}
use Rattle.c_grammar.proofs.laws.faults_of_height_move_on.Goals as goal

pub returns : goal.returns
returns c = unit_rises
