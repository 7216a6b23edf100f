use Rattle.c_front.proofs.Units.{units_have_names}
use Rattle.c_front.proofs.unit_laws.units_have_names.Goals as goal

pub returns : goal.returns
returns c = units_have_names
