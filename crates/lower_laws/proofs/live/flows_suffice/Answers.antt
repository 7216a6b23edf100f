use Rattle.lower_laws.proofs.Paths.{flows-suffice}
use Rattle.lower_laws.proofs.live.flows_suffice.Goals as goal

pub returns : goal.returns
returns c = flows-suffice
