use Rattle.lower_laws.proofs.WholeWalking.{expressions-lower}
use Rattle.lower_laws.proofs.whole.expressions_lower.Goals as goal

pub returns : goal.returns
returns c = expressions-lower
