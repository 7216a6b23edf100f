use Rattle.lower_laws.proofs.Starting.{starts-lower}
use Rattle.lower_laws.proofs.pointers.starts_lower.Goals as goal

pub returns : goal.returns
returns c = starts-lower
