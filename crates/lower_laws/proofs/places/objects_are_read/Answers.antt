use Rattle.lower_laws.proofs.PlacesReading.{objects-read}
use Rattle.lower_laws.proofs.places.objects_are_read.Goals as goal

pub returns : goal.returns
returns c = objects-read
