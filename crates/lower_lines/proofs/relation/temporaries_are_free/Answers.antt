use Rattle.lower_lines.proofs.Changes.{temporaries-free}
use Rattle.lower_lines.proofs.relation.temporaries_are_free.Goals as goal

pub returns : goal.returns
returns c = temporaries-free
