use Rattle.lower_laws.proofs.PointersStepping.{pointers-stepped}
use Rattle.lower_laws.proofs.pointers.pointers_are_stepped.Goals as goal

pub returns : goal.returns
returns c = pointers-stepped
