use Rattle.lower_laws.proofs.Switching.{switches-lower}
use Rattle.lower_laws.proofs.statements_laws.switches_lower.Goals as goal

pub returns : goal.returns
returns c = switches-lower
