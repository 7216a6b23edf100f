use Rattle.lower_laws.proofs.Straight.{returns-lower}
use Rattle.lower_laws.proofs.statements_laws.returns_lower.Goals as goal

pub returns : goal.returns
returns c = returns-lower
