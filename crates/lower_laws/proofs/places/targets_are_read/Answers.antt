use Rattle.lower_laws.proofs.PlacesReading.{targets-read}
use Rattle.lower_laws.proofs.places.targets_are_read.Goals as goal

pub returns : goal.returns
returns c = targets-read
