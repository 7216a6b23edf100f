use Rattle.lower_laws.proofs.Calling.{number-calls_lower}
use Rattle.lower_laws.proofs.expressions_laws.number_calls_lower.Goals as goal

pub returns : goal.returns
returns c = number-calls_lower
