use Rattle.lower_laws.proofs.Conditional.{pluses-lower}
use Rattle.lower_laws.proofs.expressions_laws.pluses_lower.Goals as goal

pub returns : goal.returns
returns c = pluses-lower
