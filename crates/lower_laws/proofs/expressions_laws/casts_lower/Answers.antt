use Rattle.lower_laws.proofs.Converting.{casts-lower}
use Rattle.lower_laws.proofs.expressions_laws.casts_lower.Goals as goal

pub returns : goal.returns
returns c = casts-lower
