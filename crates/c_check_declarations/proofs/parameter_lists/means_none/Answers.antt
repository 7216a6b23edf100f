use Rattle.c_check_declarations.proofs.Sized.{many_meant}
use Rattle.c_check_declarations.proofs.parameter_lists.means_none.Goals as goal

pub returns-in_default-2 : goal.returns-in_default-2
returns-in_default-2 c = many_meant c.args.list.now c.in_default.len_at_least
