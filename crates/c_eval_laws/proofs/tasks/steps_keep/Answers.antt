use Rattle.c_eval_laws.proofs.Machine.{steps_keep}
use Rattle.c_eval_laws.proofs.tasks.steps_keep.Goals as goal

pub returns : goal.returns
returns c = steps_keep
