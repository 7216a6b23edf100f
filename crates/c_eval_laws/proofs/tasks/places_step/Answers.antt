use Rattle.c_eval_laws.proofs.Expressions.{places_step}
use Rattle.c_eval_laws.proofs.tasks.places_step.Goals as goal

pub returns : goal.returns
returns c = places_step
