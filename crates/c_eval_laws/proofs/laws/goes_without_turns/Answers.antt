use Rattle.c_eval_laws.proofs.Calls.{goes_without_turns}
use Rattle.c_eval_laws.proofs.laws.goes_without_turns.Goals as goal

pub returns : goal.returns
returns c = goes_without_turns
