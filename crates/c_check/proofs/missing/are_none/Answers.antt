use Rattle.c_check.proofs.Walks.{some_differ}
use Rattle.c_check.proofs.missing.are_none.Goals as goal

pub returns-in-len1-up : goal.returns-in-len1-up
returns-in-len1-up c = some_differ c.args.types.now c.in-len1-up.len_at_least
