use Rattle.lower_laws.proofs.Moving.{pointers-read}
use Rattle.lower_laws.proofs.pointers.pointers_are_read.Goals as goal

pub returns : goal.returns
returns c = pointers-read
