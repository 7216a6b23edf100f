use Rattle.lower_laws.proofs.Stepping.{updates-lower}
use Rattle.lower_laws.proofs.expressions_laws.updates_lower.Goals as goal

pub returns : goal.returns
returns c = updates-lower
