use Rattle.std.proofs.Common.{rules}
use Rattle.c_eval.proofs.logical.and_then.Goals as goal

pub returns-then-is_true : goal.returns-then-is_true
returns-then-is_true c = search rules
