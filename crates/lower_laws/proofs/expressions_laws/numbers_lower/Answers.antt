use Rattle.lower_laws.proofs.Walking.{numbers-lower}
use Rattle.lower_laws.proofs.expressions_laws.numbers_lower.Goals as goal

pub returns : goal.returns
returns c = numbers-lower
