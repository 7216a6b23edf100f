use Rattle.lower_laws.proofs.ElementsUpdating.{elements-updated}
use Rattle.lower_laws.proofs.elements.elements_are_updated.Goals as goal

pub returns : goal.returns
returns c = elements-updated
