use Rattle.lower_laws.proofs.Declared.{no-items-lower}
use Rattle.lower_laws.proofs.statements_laws.no_items_lower.Goals as goal

pub returns : goal.returns
returns c = no-items-lower
