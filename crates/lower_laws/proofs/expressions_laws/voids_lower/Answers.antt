use Rattle.lower_laws.proofs.Conditional.{voids-lower}
use Rattle.lower_laws.proofs.expressions_laws.voids_lower.Goals as goal

pub returns : goal.returns
returns c = voids-lower
