use Rattle.lower_laws.proofs.Atoms.{constants-lower}
use Rattle.lower_laws.proofs.expressions_laws.constants_lower.Goals as goal

pub returns : goal.returns
returns c = constants-lower
