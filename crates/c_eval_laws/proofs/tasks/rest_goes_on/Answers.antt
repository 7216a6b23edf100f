use Rattle.c_eval_laws.proofs.Going.{rest_goes_on}
use Rattle.c_eval_laws.proofs.tasks.rest_goes_on.Goals as goal

pub returns : goal.returns
returns c = rest_goes_on
