use Rattle.lower_laws.proofs.Straight.{declarations-lower}
use Rattle.lower_laws.proofs.statements_laws.declarations_lower.Goals as goal

pub returns : goal.returns
returns c = declarations-lower
