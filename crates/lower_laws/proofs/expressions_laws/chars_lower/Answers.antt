use Rattle.lower_laws.proofs.Atoms.{chars-lower}
use Rattle.lower_laws.proofs.expressions_laws.chars_lower.Goals as goal

pub returns : goal.returns
returns c = chars-lower
