use Rattle.lower_laws.proofs.Conditional.{conditionals-lower}
use Rattle.lower_laws.proofs.expressions_laws.conditionals_lower.Goals as goal

pub returns : goal.returns
returns c = conditionals-lower
