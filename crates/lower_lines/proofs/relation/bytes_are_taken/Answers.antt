use Rattle.lower_lines.proofs.Changes.{bytes-taken}
use Rattle.lower_lines.proofs.relation.bytes_are_taken.Goals as goal

pub returns : goal.returns
returns c = bytes-taken
