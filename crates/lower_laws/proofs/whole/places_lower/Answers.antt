use Rattle.lower_laws.proofs.WholeWalking.{places-lower}
use Rattle.lower_laws.proofs.whole.places_lower.Goals as goal

pub returns : goal.returns
returns c = places-lower
