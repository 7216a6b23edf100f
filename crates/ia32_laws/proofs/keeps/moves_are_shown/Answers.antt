use Rattle.ia32_laws.proofs.Moving.{moves-lead, moves-show}
use Rattle.ia32_laws.proofs.keeps.moves_are_shown.Goals as goal

pub returns : goal.returns
returns c = record { lead = moves-lead; show = moves-show }
