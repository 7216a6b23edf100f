use Rattle.c_eval_laws.proofs.Serving.{stacks_stay_fit}
use Rattle.c_eval_laws.proofs.tasks.stacks_stay_fit.Goals as goal

pub returns : goal.returns
returns c = stacks_stay_fit
