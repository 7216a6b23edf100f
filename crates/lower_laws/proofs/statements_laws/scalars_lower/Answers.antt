use Rattle.lower_laws.proofs.Declared.{scalars-lower}
use Rattle.lower_laws.proofs.statements_laws.scalars_lower.Goals as goal

pub returns : goal.returns
returns c = scalars-lower
