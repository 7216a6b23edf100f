use Rattle.lower_laws.proofs.WholeWalking.{arguments-lower}
use Rattle.lower_laws.proofs.whole.arguments_lower.Goals as goal

pub returns : goal.returns
returns c = arguments-lower
