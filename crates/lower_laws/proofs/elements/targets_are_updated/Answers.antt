use Rattle.lower_laws.proofs.ElementsNaming.{targets-updated}
use Rattle.lower_laws.proofs.elements.targets_are_updated.Goals as goal

pub returns : goal.returns
returns c = targets-updated
