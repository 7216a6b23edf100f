use Rattle.c_check_laws.proofs.Files.{arrays_declared}
use Rattle.c_check_laws.proofs.declares.arrays_are_declared.Goals as goal

pub returns : goal.returns
returns c = arrays_declared
