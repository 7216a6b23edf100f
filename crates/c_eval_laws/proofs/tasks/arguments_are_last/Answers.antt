use Rattle.c_eval_laws.proofs.Starting.{arguments_are_last}
use Rattle.c_eval_laws.proofs.tasks.arguments_are_last.Goals as goal

pub returns : goal.returns
returns c = arguments_are_last
