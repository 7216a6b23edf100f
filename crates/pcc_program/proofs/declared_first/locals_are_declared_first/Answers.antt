use Rattle.pcc_program.proofs.DeclaredFirstFiles.{locals_declared_first}
use Rattle.pcc_program.proofs.declared_first.locals_are_declared_first.Goals as goal

pub returns : goal.returns
returns c = locals_declared_first
