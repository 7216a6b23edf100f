use Rattle.lower_laws.proofs.Indexing.{indexes-read}
use Rattle.lower_laws.proofs.places.indexes_are_read.Goals as goal

pub returns : goal.returns
returns c = indexes-read
