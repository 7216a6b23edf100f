use Rattle.std.proofs.Common.{arith}
use Rattle.std.proofs.lemmas.Grind.{common_steps}
use Rattle.c_grammar.proofs.Values.{exprs_height-push}
use Rattle.c_parse_expressions.proofs.build.one_more.Goals as goal

pub returns-clause-height : goal.returns-clause-height
returns-clause-height c = grind (arith, common_steps, exprs_height-push)
