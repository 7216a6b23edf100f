use Rattle.lower_laws.proofs.Straight.{plain-returns-lower}
use Rattle.lower_laws.proofs.statements_laws.plain_returns_lower.Goals as goal

pub returns : goal.returns
returns c = plain-returns-lower
