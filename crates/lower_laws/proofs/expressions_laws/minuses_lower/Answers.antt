use Rattle.lower_laws.proofs.Unary.{minuses-lower}
use Rattle.lower_laws.proofs.expressions_laws.minuses_lower.Goals as goal

pub returns : goal.returns
returns c = minuses-lower
