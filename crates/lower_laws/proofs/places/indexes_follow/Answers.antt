use Rattle.lower_laws.proofs.Indexing.{indexes-follow}
use Rattle.lower_laws.proofs.places.indexes_follow.Goals as goal

pub returns : goal.returns
returns c = indexes-follow
