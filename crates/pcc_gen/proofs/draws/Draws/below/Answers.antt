use Rattle.pcc_gen.proofs.Drawing.{draw_computed, next_computed}
use Rattle.pcc_gen.proofs.draws.Draws.below.Goals as goal

pub returns-clause-drawn : goal.returns-clause-drawn
returns-clause-drawn c = draw_computed _ _ _ (next_computed _)

pub returns-clause-next : goal.returns-clause-next
returns-clause-next c = next_computed _
