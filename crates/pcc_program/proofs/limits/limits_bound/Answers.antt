use Rattle.pcc_program.proofs.Bounds.{limits-bound}
use Rattle.pcc_program.proofs.limits.limits_bound.Goals as goal

pub returns : goal.returns
returns c = limits-bound
