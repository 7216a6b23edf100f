use Rattle.c_eval_laws.proofs.Calls.{call_bounds_agree}
use Rattle.c_eval_laws.proofs.laws.call_bounds_agree.Goals as goal

pub returns : goal.returns
returns c = call_bounds_agree
