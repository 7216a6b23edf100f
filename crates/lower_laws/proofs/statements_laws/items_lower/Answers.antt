use Rattle.lower_laws.proofs.Declared.{items-lower}
use Rattle.lower_laws.proofs.statements_laws.items_lower.Goals as goal

pub returns : goal.returns
returns c = items-lower
