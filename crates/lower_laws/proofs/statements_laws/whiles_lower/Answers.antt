use Rattle.lower_laws.proofs.Looping.{whiles-lower}
use Rattle.lower_laws.proofs.statements_laws.whiles_lower.Goals as goal

pub returns : goal.returns
returns c = whiles-lower
