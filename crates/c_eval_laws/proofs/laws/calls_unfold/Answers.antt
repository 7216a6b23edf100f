use Rattle.c_eval_laws.proofs.Calls.{calls_unfold}
use Rattle.c_eval_laws.proofs.laws.calls_unfold.Goals as goal

pub returns : goal.returns
returns c = calls_unfold
