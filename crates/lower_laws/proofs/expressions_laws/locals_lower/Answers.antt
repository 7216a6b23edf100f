use Rattle.lower_laws.proofs.Reading.{locals-lower}
use Rattle.lower_laws.proofs.expressions_laws.locals_lower.Goals as goal

pub returns : goal.returns
returns c = locals-lower
