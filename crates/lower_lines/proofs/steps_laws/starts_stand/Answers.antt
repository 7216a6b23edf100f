use Rattle.lower_lines.proofs.Points.{starts-stand}
use Rattle.lower_lines.proofs.steps_laws.starts_stand.Goals as goal

pub returns : goal.returns
returns c = starts-stand
