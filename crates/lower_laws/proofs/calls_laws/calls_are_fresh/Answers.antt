use Rattle.lower_laws.proofs.Beginning.{calls-fresh}
use Rattle.lower_laws.proofs.calls_laws.calls_are_fresh.Goals as goal

pub returns : goal.returns
returns c = calls-fresh
