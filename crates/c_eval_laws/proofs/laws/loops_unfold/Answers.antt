use Rattle.c_eval_laws.proofs.Agreeing.{loops_unfold}
use Rattle.c_eval_laws.proofs.laws.loops_unfold.Goals as goal

pub returns : goal.returns
returns c = loops_unfold
