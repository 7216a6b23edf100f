use Rattle.lower_laws.proofs.Naming.{arrays-cleared}
use Rattle.lower_laws.proofs.places.arrays_are_cleared.Goals as goal

pub returns : goal.returns
returns c = arrays-cleared
