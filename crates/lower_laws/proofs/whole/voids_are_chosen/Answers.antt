use Rattle.lower_laws.proofs.WholeChoosing.{voids-chosen}
use Rattle.lower_laws.proofs.whole.voids_are_chosen.Goals as goal

pub returns : goal.returns
returns c = voids-chosen
