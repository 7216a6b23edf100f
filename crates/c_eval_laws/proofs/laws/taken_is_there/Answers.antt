use Rattle.c_eval_laws.proofs.Outcomes.{taken_is_there}
use Rattle.c_eval_laws.proofs.laws.taken_is_there.Goals as goal

pub returns : goal.returns
returns c = taken_is_there
