use Rattle.std.proofs.Common.{rules}
use Rattle.index_lists.proofs.link.take_out.Goals as goal

pub returns-clause-links : goal.returns-clause-links
returns-clause-links c = search rules

pub returns-clause-ends : goal.returns-clause-ends
returns-clause-ends c = search rules
