use Rattle.lower_laws.proofs.LiveWalk.{expressions-settle}
use Rattle.lower_laws.proofs.live.expressions_settle.Goals as goal

pub returns : goal.returns
returns c = expressions-settle
