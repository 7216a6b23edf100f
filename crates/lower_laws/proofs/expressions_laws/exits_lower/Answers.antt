use Rattle.lower_laws.proofs.Outside.{exits-lower}
use Rattle.lower_laws.proofs.expressions_laws.exits_lower.Goals as goal

pub returns : goal.returns
returns c = exits-lower
