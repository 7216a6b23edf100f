use Rattle.lower_laws.proofs.Addressing.{indexes-addressed}
use Rattle.lower_laws.proofs.pointers.indexes_are_addressed.Goals as goal

pub returns : goal.returns
returns c = indexes-addressed
