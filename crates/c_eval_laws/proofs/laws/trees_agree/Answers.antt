use Rattle.c_eval_laws.proofs.Agreeing.{trees_agree}
use Rattle.c_eval_laws.proofs.laws.trees_agree.Goals as goal

pub returns : goal.returns
returns c = trees_agree
