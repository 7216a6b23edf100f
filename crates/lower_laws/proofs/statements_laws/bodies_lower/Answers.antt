use Rattle.lower_laws.proofs.Walk.{bodies-lower}
use Rattle.lower_laws.proofs.statements_laws.bodies_lower.Goals as goal

pub returns : goal.returns
returns c = bodies-lower
