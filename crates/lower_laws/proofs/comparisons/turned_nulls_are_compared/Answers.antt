use Rattle.lower_laws.proofs.Nulls.{turned-compared}
use Rattle.lower_laws.proofs.comparisons.turned_nulls_are_compared.Goals as goal

pub returns : goal.returns
returns c = turned-compared
