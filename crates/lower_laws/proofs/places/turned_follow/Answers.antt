use Rattle.lower_laws.proofs.Turned.{turned-follow}
use Rattle.lower_laws.proofs.places.turned_follow.Goals as goal

pub returns : goal.returns
returns c = turned-follow
