use Rattle.c_check_laws.proofs.Files.{functions_named}
use Rattle.c_check_laws.proofs.declares.functions_are_named.Goals as goal

pub returns : goal.returns
returns c = functions_named
