use Rattle.lower_laws.proofs.Writing.{objects-assigned}
use Rattle.lower_laws.proofs.places.objects_are_assigned.Goals as goal

pub returns : goal.returns
returns c = objects-assigned
