use Rattle.std.proofs.Common.{rules}
use Rattle.c_lex.proofs.mark_tokens.mark_of_three.Goals as goal

pub returns-in-60-eq60-eq61 : goal.returns-in-60-eq60-eq61
returns-in-60-eq60-eq61 c = search rules
