use Rattle.std.proofs.Common.{rules}
use Rattle.c_eval.proofs.operators.update.Goals as goal

pub returns-then-store : goal.returns-then-store
returns-then-store c = search rules

pub returns-else-store : goal.returns-else-store
returns-else-store c = search rules

pub returns-in-Err : goal.returns-in-Err
returns-in-Err c = search rules
