use Rattle.lower_laws.proofs.Locating.{turned-lower}
use Rattle.lower_laws.proofs.elements.turned_lower.Goals as goal

pub returns : goal.returns
returns c = turned-lower
