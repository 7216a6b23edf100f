use Rattle.lower_lines.proofs.Shapes.{shapes-hold}
use Rattle.lower_lines.proofs.bounds.shapes_hold.Goals as goal

pub returns : goal.returns
returns c = shapes-hold
