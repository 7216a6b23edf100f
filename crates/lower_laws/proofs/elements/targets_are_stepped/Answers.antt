use Rattle.lower_laws.proofs.ElementsNaming.{targets-stepped}
use Rattle.lower_laws.proofs.elements.targets_are_stepped.Goals as goal

pub returns : goal.returns
returns c = targets-stepped
