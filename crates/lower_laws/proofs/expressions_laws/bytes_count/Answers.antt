use Rattle.lower_laws.proofs.Counting.{bytes-count}
use Rattle.lower_laws.proofs.expressions_laws.bytes_count.Goals as goal

pub returns : goal.returns
returns c = bytes-count
