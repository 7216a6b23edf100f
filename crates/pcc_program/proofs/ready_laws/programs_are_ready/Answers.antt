use Rattle.pcc_program.proofs.Accepted.{programs_are_ready}
use Rattle.pcc_program.proofs.ready_laws.programs_are_ready.Goals as goal

pub returns : goal.returns
returns c = programs_are_ready
