use Rattle.lower_lines.proofs.Names.{names-are-there}
use Rattle.lower_lines.proofs.bounds.names_are_there.Goals as goal

pub returns : goal.returns
returns c = names-are-there
