use Rattle.lower_laws.proofs.ElementsNaming.{indexes-updated}
use Rattle.lower_laws.proofs.elements.indexes_are_updated.Goals as goal

pub returns : goal.returns
returns c = indexes-updated
