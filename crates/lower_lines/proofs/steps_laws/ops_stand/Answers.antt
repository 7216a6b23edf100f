use Rattle.lower_lines.proofs.Points.{ops-stand}
use Rattle.lower_lines.proofs.steps_laws.ops_stand.Goals as goal

pub returns : goal.returns
returns c = ops-stand
