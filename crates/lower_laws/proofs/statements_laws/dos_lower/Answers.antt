use Rattle.lower_laws.proofs.Looping.{dos-lower}
use Rattle.lower_laws.proofs.statements_laws.dos_lower.Goals as goal

pub returns : goal.returns
returns c = dos-lower
