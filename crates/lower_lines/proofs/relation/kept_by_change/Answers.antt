use Rattle.lower_lines.proofs.Changes.{kept-by-change}
use Rattle.lower_lines.proofs.relation.kept_by_change.Goals as goal

pub returns : goal.returns
returns c = kept-by-change
