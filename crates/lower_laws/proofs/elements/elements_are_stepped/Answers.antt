use Rattle.lower_laws.proofs.ElementsUpdating.{elements-stepped}
use Rattle.lower_laws.proofs.elements.elements_are_stepped.Goals as goal

pub returns : goal.returns
returns c = elements-stepped
