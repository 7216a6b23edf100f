use Rattle.lower_laws.proofs.Nulls.{nulls-compared}
use Rattle.lower_laws.proofs.comparisons.nulls_are_compared.Goals as goal

pub returns : goal.returns
returns c = nulls-compared
