use Rattle.lower_laws.proofs.Ordering.{pointers-compared}
use Rattle.lower_laws.proofs.comparisons.pointers_are_compared.Goals as goal

pub returns : goal.returns
returns c = pointers-compared
