use Rattle.lower_laws.proofs.PlacesAssigning.{targets-assigned}
use Rattle.lower_laws.proofs.places.targets_are_assigned.Goals as goal

pub returns : goal.returns
returns c = targets-assigned
