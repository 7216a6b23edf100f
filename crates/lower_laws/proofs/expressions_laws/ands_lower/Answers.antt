use Rattle.lower_laws.proofs.Logical.{ands-lower}
use Rattle.lower_laws.proofs.expressions_laws.ands_lower.Goals as goal

pub returns : goal.returns
returns c = ands-lower
