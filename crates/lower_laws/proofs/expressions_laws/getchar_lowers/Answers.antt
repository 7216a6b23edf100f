use Rattle.lower_laws.proofs.Atoms.{getchar-lowers}
use Rattle.lower_laws.proofs.expressions_laws.getchar_lowers.Goals as goal

pub returns : goal.returns
returns c = getchar-lowers
