use Rattle.lower_laws.proofs.Turned.{turned-read}
use Rattle.lower_laws.proofs.places.turned_are_read.Goals as goal

pub returns : goal.returns
returns c = turned-read
