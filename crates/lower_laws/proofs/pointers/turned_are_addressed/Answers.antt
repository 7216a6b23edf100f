use Rattle.lower_laws.proofs.Addressing.{turned-addressed}
use Rattle.lower_laws.proofs.pointers.turned_are_addressed.Goals as goal

pub returns : goal.returns
returns c = turned-addressed
