use Rattle.c_eval_laws.proofs.Weighing.{weights_fall}
use Rattle.c_eval_laws.proofs.tasks.weights_fall.Goals as goal

pub returns : goal.returns
returns c = weights_fall
