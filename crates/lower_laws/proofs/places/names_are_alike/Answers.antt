use Rattle.lower_laws.proofs.Naming.{names-alike}
use Rattle.lower_laws.proofs.places.names_are_alike.Goals as goal

pub returns : goal.returns
returns c = names-alike
