use Rattle.lower_laws.proofs.Updating.{objects-stepped}
use Rattle.lower_laws.proofs.places.objects_are_stepped.Goals as goal

pub returns : goal.returns
returns c = objects-stepped
