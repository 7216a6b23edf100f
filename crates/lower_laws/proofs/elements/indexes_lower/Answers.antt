use Rattle.lower_laws.proofs.Locating.{indexes-lower}
use Rattle.lower_laws.proofs.elements.indexes_lower.Goals as goal

pub returns : goal.returns
returns c = indexes-lower
