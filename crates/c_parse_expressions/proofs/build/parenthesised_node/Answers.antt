use Rattle.std.proofs.Common.{rules}
use Rattle.c_parse_expressions.proofs.build.parenthesised_node.Goals as goal

pub returns-clause-height : goal.returns-clause-height
returns-clause-height c = search rules
