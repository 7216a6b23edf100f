use Rattle.c_eval_laws.proofs.Agreeing.{loop_bounds_agree}
use Rattle.c_eval_laws.proofs.laws.loop_bounds_agree.Goals as goal

pub returns : goal.returns
returns c = loop_bounds_agree
