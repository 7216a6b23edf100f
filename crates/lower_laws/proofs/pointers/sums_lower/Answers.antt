use Rattle.lower_laws.proofs.Summing.{sums-lower}
use Rattle.lower_laws.proofs.pointers.sums_lower.Goals as goal

pub returns : goal.returns
returns c = sums-lower
