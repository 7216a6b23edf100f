use Rattle.lower_lines.proofs.Arrays.{arrays-fit}
use Rattle.lower_lines.proofs.relation.arrays_fit.Goals as goal

pub returns : goal.returns
returns c = arrays-fit
