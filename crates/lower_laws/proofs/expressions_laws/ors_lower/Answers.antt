use Rattle.lower_laws.proofs.Logical.{ors-lower}
use Rattle.lower_laws.proofs.expressions_laws.ors_lower.Goals as goal

pub returns : goal.returns
returns c = ors-lower
