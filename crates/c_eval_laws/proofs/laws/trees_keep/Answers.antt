use Rattle.c_eval_laws.proofs.Agreeing.{trees_keep}
use Rattle.c_eval_laws.proofs.laws.trees_keep.Goals as goal

pub returns : goal.returns
returns c = trees_keep
