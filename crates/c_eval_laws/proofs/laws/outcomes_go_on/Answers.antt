use Rattle.c_eval_laws.proofs.Outcomes.{outcomes_go_on}
use Rattle.c_eval_laws.proofs.laws.outcomes_go_on.Goals as goal

pub returns : goal.returns
returns c = outcomes_go_on
