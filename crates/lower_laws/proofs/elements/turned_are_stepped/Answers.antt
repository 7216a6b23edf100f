use Rattle.lower_laws.proofs.ElementsNaming.{turned-stepped}
use Rattle.lower_laws.proofs.elements.turned_are_stepped.Goals as goal

pub returns : goal.returns
returns c = turned-stepped
