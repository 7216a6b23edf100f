use Rattle.std.proofs.Common.{rules}
use Rattle.c_check_names.proofs.linkage.internal.Goals as goal

pub returns : goal.returns
returns c = search rules
