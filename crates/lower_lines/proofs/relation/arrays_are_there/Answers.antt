use Rattle.lower_lines.proofs.Arrays.{arrays-there}
use Rattle.lower_lines.proofs.relation.arrays_are_there.Goals as goal

pub returns : goal.returns
returns c = arrays-there
