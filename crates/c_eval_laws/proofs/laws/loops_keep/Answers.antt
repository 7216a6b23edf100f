use Rattle.c_eval_laws.proofs.Agreeing.{loops_keep}
use Rattle.c_eval_laws.proofs.laws.loops_keep.Goals as goal

pub returns : goal.returns
returns c = loops_keep
