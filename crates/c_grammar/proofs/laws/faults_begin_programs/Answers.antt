use Rattle.c_grammar.proofs.RightStatements.{begins_program}
use Rattle.c_grammar.proofs.laws.faults_begin_programs.Goals as goal

pub returns : goal.returns
returns c = begins_program
