use Rattle.c_check_laws.proofs.Sound.{typed_is_well_typed}
use Rattle.c_check_laws.proofs.laws.typed_is_well_typed.Goals as goal

pub returns : goal.returns
returns c = typed_is_well_typed
