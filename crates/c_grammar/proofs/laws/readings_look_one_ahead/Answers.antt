use Rattle.c_grammar.proofs.AheadStatements.{unit_ahead}
use Rattle.c_grammar.proofs.laws.readings_look_one_ahead.Goals as goal

pub returns : goal.returns
returns c = unit_ahead
