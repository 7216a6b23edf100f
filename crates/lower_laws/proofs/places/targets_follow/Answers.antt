use Rattle.lower_laws.proofs.PlacesReading.{targets-follow}
use Rattle.lower_laws.proofs.places.targets_follow.Goals as goal

pub returns : goal.returns
returns c = targets-follow
