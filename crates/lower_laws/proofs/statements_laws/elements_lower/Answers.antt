use Rattle.lower_laws.proofs.Arrays.{elements-lower}
use Rattle.lower_laws.proofs.statements_laws.elements_lower.Goals as goal

pub returns : goal.returns
returns c = elements-lower
