use Rattle.lower_laws.proofs.ElementsNaming.{turned-updated}
use Rattle.lower_laws.proofs.elements.turned_are_updated.Goals as goal

pub returns : goal.returns
returns c = turned-updated
