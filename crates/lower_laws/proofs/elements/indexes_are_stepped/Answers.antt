use Rattle.lower_laws.proofs.ElementsNaming.{indexes-stepped}
use Rattle.lower_laws.proofs.elements.indexes_are_stepped.Goals as goal

pub returns : goal.returns
returns c = indexes-stepped
