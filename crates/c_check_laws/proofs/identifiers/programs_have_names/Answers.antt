use Rattle.c_check_laws.proofs.IdentifiersFiles.{programs_have_names}
use Rattle.c_check_laws.proofs.identifiers.programs_have_names.Goals as goal

pub returns : goal.returns
returns c = programs_have_names
