use Rattle.lower_laws.proofs.Indexing.{indexes-assigned}
use Rattle.lower_laws.proofs.places.indexes_are_assigned.Goals as goal

pub returns : goal.returns
returns c = indexes-assigned
