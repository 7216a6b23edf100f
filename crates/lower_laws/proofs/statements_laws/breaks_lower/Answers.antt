use Rattle.lower_laws.proofs.Straight.{breaks-lower}
use Rattle.lower_laws.proofs.statements_laws.breaks_lower.Goals as goal

pub returns : goal.returns
returns c = breaks-lower
