use Rattle.lower_laws.proofs.Storing.{pointers-convert}
use Rattle.lower_laws.proofs.pointers.pointers_convert.Goals as goal

pub returns : goal.returns
returns c = pointers-convert
