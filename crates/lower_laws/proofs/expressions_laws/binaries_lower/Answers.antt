use Rattle.lower_laws.proofs.Binary.{binaries-lower}
use Rattle.lower_laws.proofs.expressions_laws.binaries_lower.Goals as goal

pub returns : goal.returns
returns c = binaries-lower
