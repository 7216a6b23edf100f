use Rattle.lower_laws.proofs.Declared.{plain-scalars-lower}
use Rattle.lower_laws.proofs.statements_laws.plain_scalars_lower.Goals as goal

pub returns : goal.returns
returns c = plain-scalars-lower
