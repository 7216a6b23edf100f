use Rattle.ia32_laws.proofs.Following.{programs-follow}
use Rattle.ia32_laws.proofs.Whole.{programs-are-right}
use Rattle.ia32_laws.proofs.laws.programs_are_right.Goals as goal

pub returns : goal.returns
returns c = record { follows = programs-follow; right = programs-are-right }
