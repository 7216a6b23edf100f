use Rattle.lower_laws.proofs.Walk.{statements-lower}
use Rattle.lower_laws.proofs.statements_laws.statements_lower.Goals as goal

pub returns : goal.returns
returns c = statements-lower
