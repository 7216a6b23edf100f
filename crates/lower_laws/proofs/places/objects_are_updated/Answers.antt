use Rattle.lower_laws.proofs.Updating.{objects-updated}
use Rattle.lower_laws.proofs.places.objects_are_updated.Goals as goal

pub returns : goal.returns
returns c = objects-updated
