use Rattle.c_check_laws.proofs.Words.{identifiers_have_names}
use Rattle.c_check_laws.proofs.identifiers.identifiers_have_names.Goals as goal

pub returns : goal.returns
returns c = identifiers_have_names
