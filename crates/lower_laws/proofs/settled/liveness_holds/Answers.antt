use Rattle.lower_laws.proofs.SettledFunctions.{liveness-holds}
use Rattle.lower_laws.proofs.settled.liveness_holds.Goals as goal

pub returns : goal.returns
returns c = liveness-holds
