use Rattle.lower_laws.proofs.WholeCalling.{calls-lower}
use Rattle.lower_laws.proofs.whole.all_calls_lower.Goals as goal

pub returns : goal.returns
returns c = calls-lower
