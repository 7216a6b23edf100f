use Rattle.lower_laws.proofs.Beginning.{calls-back}
use Rattle.lower_laws.proofs.calls_laws.calls_go_back.Goals as goal

pub returns : goal.returns
returns c = calls-back
