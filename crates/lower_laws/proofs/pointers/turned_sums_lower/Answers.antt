use Rattle.lower_laws.proofs.Summing.{turned-sums}
use Rattle.lower_laws.proofs.pointers.turned_sums_lower.Goals as goal

pub returns : goal.returns
returns c = turned-sums
