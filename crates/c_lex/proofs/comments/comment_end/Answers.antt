use Rattle.std.proofs.Common.{rules}
use Rattle.c_lex.proofs.comments.comment_end.Goals as goal

pub loop-i-preserved : goal.loop-i-preserved
loop-i-preserved c = search rules
