use Rattle.lower_laws.proofs.Looping.{fors-lower}
use Rattle.lower_laws.proofs.statements_laws.fors_lower.Goals as goal

pub returns : goal.returns
returns c = fors-lower
