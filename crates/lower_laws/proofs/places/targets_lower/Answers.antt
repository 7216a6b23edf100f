use Rattle.lower_laws.proofs.ExpressionAddresses.{targets-lower}
use Rattle.lower_laws.proofs.places.targets_lower.Goals as goal

pub returns : goal.returns
returns c = targets-lower
