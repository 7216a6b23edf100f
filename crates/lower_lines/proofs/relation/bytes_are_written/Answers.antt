use Rattle.lower_lines.proofs.Changes.{bytes-written}
use Rattle.lower_lines.proofs.relation.bytes_are_written.Goals as goal

pub returns : goal.returns
returns c = bytes-written
