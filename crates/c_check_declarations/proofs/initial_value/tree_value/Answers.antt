use Rattle.std.proofs.Common.{rules}
use Rattle.c_check_declarations.proofs.initial_value.tree_value.Goals as goal

pub returns : goal.returns
returns c = search rules
