use Rattle.c_eval_laws.proofs.Outcomes.{ends_stay}
use Rattle.c_eval_laws.proofs.laws.ends_stay.Goals as goal

pub returns : goal.returns
returns c = ends_stay
