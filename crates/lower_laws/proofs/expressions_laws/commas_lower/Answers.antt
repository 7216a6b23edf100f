use Rattle.lower_laws.proofs.Outside.{commas-lower}
use Rattle.lower_laws.proofs.expressions_laws.commas_lower.Goals as goal

pub returns : goal.returns
returns c = commas-lower
