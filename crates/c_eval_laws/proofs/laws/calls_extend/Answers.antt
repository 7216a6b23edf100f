use Rattle.c_eval_laws.proofs.Calls.{calls_extend}
use Rattle.c_eval_laws.proofs.laws.calls_extend.Goals as goal

pub returns : goal.returns
returns c = calls_extend
