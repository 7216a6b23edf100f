use Rattle.lower_laws.proofs.Straight.{empties-lower}
use Rattle.lower_laws.proofs.statements_laws.empties_lower.Goals as goal

pub returns : goal.returns
returns c = empties-lower
