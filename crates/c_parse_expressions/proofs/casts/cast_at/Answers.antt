use Rattle.std.proofs.Common.{rules}
use Rattle.c_parse_expressions.proofs.casts.cast_at.Goals as goal

pub returns-clause-none : goal.returns-clause-none
returns-clause-none c = search rules
