use Rattle.ia32_rows.proofs.Straight.{straight-goes}
use Rattle.ia32_rows.proofs.effects.straight_code_goes.Goals as goal

pub returns : goal.returns
returns c = straight-goes
