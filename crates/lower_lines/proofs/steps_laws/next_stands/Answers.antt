use Rattle.lower_lines.proofs.Points.{next-stands}
use Rattle.lower_lines.proofs.steps_laws.next_stands.Goals as goal

pub returns : goal.returns
returns c = next-stands
