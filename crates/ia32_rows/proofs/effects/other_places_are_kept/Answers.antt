use Rattle.ia32_rows.proofs.Sums.{others-kept}
use Rattle.ia32_rows.proofs.effects.other_places_are_kept.Goals as goal

pub returns : goal.returns
returns c = others-kept
