use Rattle.lower_lines.proofs.Arrays.{arrays-reached}
use Rattle.lower_lines.proofs.relation.arrays_are_reached.Goals as goal

pub returns : goal.returns
returns c = arrays-reached
