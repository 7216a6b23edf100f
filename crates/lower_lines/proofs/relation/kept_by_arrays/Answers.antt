use Rattle.lower_lines.proofs.Arrays.{kept-by-arrays}
use Rattle.lower_lines.proofs.relation.kept_by_arrays.Goals as goal

pub returns : goal.returns
returns c = kept-by-arrays
