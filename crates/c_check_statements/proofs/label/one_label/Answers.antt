use Rattle.std.proofs.Common.{rules}
use Rattle.c_check_statements.proofs.label.one_label.Goals as goal

pub returns-then-is_new : goal.returns-then-is_new
returns-then-is_new c = search rules
