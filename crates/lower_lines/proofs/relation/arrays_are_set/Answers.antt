use Rattle.lower_lines.proofs.Arrays.{arrays-set}
use Rattle.lower_lines.proofs.relation.arrays_are_set.Goals as goal

pub returns : goal.returns
returns c = arrays-set
