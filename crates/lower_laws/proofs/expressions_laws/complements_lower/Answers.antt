use Rattle.lower_laws.proofs.Unary.{complements-lower}
use Rattle.lower_laws.proofs.expressions_laws.complements_lower.Goals as goal

pub returns : goal.returns
returns c = complements-lower
