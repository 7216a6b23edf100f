use Rattle.lower_laws.proofs.Stepping.{steps-lower}
use Rattle.lower_laws.proofs.expressions_laws.steps_lower.Goals as goal

pub returns : goal.returns
returns c = steps-lower
