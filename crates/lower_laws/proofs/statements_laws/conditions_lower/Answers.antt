use Rattle.lower_laws.proofs.Conditions.{conditions-lower}
use Rattle.lower_laws.proofs.statements_laws.conditions_lower.Goals as goal

pub returns : goal.returns
returns c = conditions-lower
