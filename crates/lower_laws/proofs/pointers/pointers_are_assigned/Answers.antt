use Rattle.lower_laws.proofs.Storing.{pointers-assigned}
use Rattle.lower_laws.proofs.pointers.pointers_are_assigned.Goals as goal

pub returns : goal.returns
returns c = pointers-assigned
