use Rattle.lower_laws.proofs.ExpressionAddresses.{targets-addressed}
use Rattle.lower_laws.proofs.places.targets_are_addressed.Goals as goal

pub returns : goal.returns
returns c = targets-addressed
