use Rattle.c_eval_laws.proofs.Calling.{calls_step}
use Rattle.c_eval_laws.proofs.tasks.calls_step.Goals as goal

pub returns : goal.returns
returns c = calls_step
