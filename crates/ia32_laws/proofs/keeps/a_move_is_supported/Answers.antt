use Rattle.ia32_laws.proofs.MovesWorked.{moves-support}
use Rattle.ia32_laws.proofs.keeps.a_move_is_supported.Goals as goal

pub returns : goal.returns
returns c = moves-support
