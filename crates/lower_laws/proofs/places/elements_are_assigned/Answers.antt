use Rattle.lower_laws.proofs.PlacesAssigning.{elements-assigned}
use Rattle.lower_laws.proofs.places.elements_are_assigned.Goals as goal

pub returns : goal.returns
returns c = elements-assigned
