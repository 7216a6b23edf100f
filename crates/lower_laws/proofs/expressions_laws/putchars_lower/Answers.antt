use Rattle.lower_laws.proofs.Outside.{putchars-lower}
use Rattle.lower_laws.proofs.expressions_laws.putchars_lower.Goals as goal

pub returns : goal.returns
returns c = putchars-lower
