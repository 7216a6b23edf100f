use Rattle.lower_laws.proofs.PlacesReading.{elements-read}
use Rattle.lower_laws.proofs.places.elements_are_read.Goals as goal

pub returns : goal.returns
returns c = elements-read
