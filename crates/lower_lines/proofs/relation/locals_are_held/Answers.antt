use Rattle.lower_lines.proofs.Changes.{locals-held}
use Rattle.lower_lines.proofs.relation.locals_are_held.Goals as goal

pub returns : goal.returns
returns c = locals-held
