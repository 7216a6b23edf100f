use Rattle.lower_laws.proofs.Turned.{turned-assigned}
use Rattle.lower_laws.proofs.places.turned_are_assigned.Goals as goal

pub returns : goal.returns
returns c = turned-assigned
