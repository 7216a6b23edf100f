use Rattle.lower_laws.proofs.Straight.{evaluations-lower}
use Rattle.lower_laws.proofs.statements_laws.evaluations_lower.Goals as goal

pub returns : goal.returns
returns c = evaluations-lower
