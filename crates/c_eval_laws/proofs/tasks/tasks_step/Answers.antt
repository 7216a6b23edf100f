use Rattle.c_eval_laws.proofs.Machine.{tasks_step}
use Rattle.c_eval_laws.proofs.tasks.tasks_step.Goals as goal

pub returns : goal.returns
returns c = tasks_step
