use Rattle.lower_lines.proofs.Few.{points-are-few}
use Rattle.lower_lines.proofs.bounds.points_are_few.Goals as goal

pub returns : goal.returns
returns c = points-are-few
