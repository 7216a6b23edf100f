use Rattle.c_eval_laws.proofs.Agreeing.{trees_extend}
use Rattle.c_eval_laws.proofs.laws.trees_extend.Goals as goal

pub returns : goal.returns
returns c = trees_extend
