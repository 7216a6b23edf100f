use Rattle.lower_lines.proofs.Marks.{marks-hold}
use Rattle.lower_lines.proofs.bounds.marks_hold.Goals as goal

pub returns : goal.returns
returns c = marks-hold
