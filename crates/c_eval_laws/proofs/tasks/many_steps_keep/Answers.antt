use Rattle.c_eval_laws.proofs.Starting.{many_steps_keep}
use Rattle.c_eval_laws.proofs.tasks.many_steps_keep.Goals as goal

pub returns : goal.returns
returns c = many_steps_keep
