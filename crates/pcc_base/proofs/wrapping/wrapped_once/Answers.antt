use Rattle.pcc_base.proofs.Congruence.{wrapped_once}
use Rattle.pcc_base.proofs.wrapping.wrapped_once.Goals as goal

pub returns : goal.returns
returns c = wrapped_once
