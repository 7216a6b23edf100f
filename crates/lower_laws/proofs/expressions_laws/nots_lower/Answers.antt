use Rattle.lower_laws.proofs.ExpressionConditions.{nots-lower}
use Rattle.lower_laws.proofs.expressions_laws.nots_lower.Goals as goal

pub returns : goal.returns
returns c = nots-lower
