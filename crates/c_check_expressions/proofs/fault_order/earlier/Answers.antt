use Rattle.std.proofs.Common.{rules}
use Rattle.c_check_expressions.proofs.fault_order.earlier.Goals as goal

pub returns-then-precedes : goal.returns-then-precedes
returns-then-precedes c = search rules

pub returns-else-precedes : goal.returns-else-precedes
returns-else-precedes c = search rules
