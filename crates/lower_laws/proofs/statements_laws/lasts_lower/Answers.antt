use Rattle.lower_laws.proofs.Sequences.{lasts-lower}
use Rattle.lower_laws.proofs.statements_laws.lasts_lower.Goals as goal

pub returns : goal.returns
returns c = lasts-lower
