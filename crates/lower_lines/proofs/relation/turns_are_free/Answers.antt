use Rattle.lower_lines.proofs.Changes.{turns-free}
use Rattle.lower_lines.proofs.relation.turns_are_free.Goals as goal

pub returns : goal.returns
returns c = turns-free
