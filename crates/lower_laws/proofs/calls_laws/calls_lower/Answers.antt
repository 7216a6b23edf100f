use Rattle.lower_laws.proofs.Calls.{calls-lower}
use Rattle.lower_laws.proofs.calls_laws.calls_lower.Goals as goal

pub returns : goal.returns
returns c = calls-lower
