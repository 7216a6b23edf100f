use Rattle.lower_laws.proofs.Conditional.{choices-lower}
use Rattle.lower_laws.proofs.expressions_laws.choices_lower.Goals as goal

pub returns : goal.returns
returns c = choices-lower
