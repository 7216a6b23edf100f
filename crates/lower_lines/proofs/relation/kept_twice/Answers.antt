use Rattle.lower_lines.proofs.Changes.{kept-twice}
use Rattle.lower_lines.proofs.relation.kept_twice.Goals as goal

pub returns : goal.returns
returns c = kept-twice
