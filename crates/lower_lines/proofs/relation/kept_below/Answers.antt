use Rattle.lower_lines.proofs.Changes.{kept-below}
use Rattle.lower_lines.proofs.relation.kept_below.Goals as goal

pub returns : goal.returns
returns c = kept-below
