use Rattle.c_eval_laws.proofs.Calls.{calls_keep}
use Rattle.c_eval_laws.proofs.laws.calls_keep.Goals as goal

pub returns : goal.returns
returns c = calls_keep
