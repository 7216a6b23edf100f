use Rattle.c_grammar.proofs.Exact.{exact}
use Rattle.c_grammar.proofs.laws.faults_stand_there.Goals as goal

pub returns : goal.returns
returns c = exact
