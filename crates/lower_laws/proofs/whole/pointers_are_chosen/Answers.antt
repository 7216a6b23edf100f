use Rattle.lower_laws.proofs.WholeChoosing.{pointers-chosen}
use Rattle.lower_laws.proofs.whole.pointers_are_chosen.Goals as goal

pub returns : goal.returns
returns c = pointers-chosen
