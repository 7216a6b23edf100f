use Rattle.lower_lines.proofs.Changes.{pointers-set}
use Rattle.lower_lines.proofs.relation.pointers_are_set.Goals as goal

pub returns : goal.returns
returns c = pointers-set
