use Rattle.pcc_program.proofs.Worked.{in-memory}
use Rattle.pcc_program.proofs.limits.worked_example.Goals as goal

pub returns : goal.returns
returns c = in-memory
