use Rattle.lower_laws.proofs.PointersUpdating.{pointers-moved}
use Rattle.lower_laws.proofs.pointers.pointers_are_moved.Goals as goal

pub returns : goal.returns
returns c = pointers-moved
