use Rattle.c_eval_laws.proofs.Statements.{items_step}
use Rattle.c_eval_laws.proofs.tasks.items_step.Goals as goal

pub returns : goal.returns
returns c = items_step
