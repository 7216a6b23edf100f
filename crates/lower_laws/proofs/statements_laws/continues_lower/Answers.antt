use Rattle.lower_laws.proofs.Straight.{continues-lower}
use Rattle.lower_laws.proofs.statements_laws.continues_lower.Goals as goal

pub returns : goal.returns
returns c = continues-lower
