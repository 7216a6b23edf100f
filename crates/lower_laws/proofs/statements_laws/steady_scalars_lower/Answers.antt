use Rattle.lower_laws.proofs.Declared.{steady-scalars-lower}
use Rattle.lower_laws.proofs.statements_laws.steady_scalars_lower.Goals as goal

pub returns : goal.returns
returns c = steady-scalars-lower
