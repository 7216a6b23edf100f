use Rattle.c_eval_laws.proofs.Serving.{is_served}
use Rattle.c_eval_laws.proofs.tasks.is_served.Goals as goal

pub returns : goal.returns
returns c = is_served
