-- The names and the steps are computed.
use Rattle.std.proofs.Common.{refl}
use Rattle.flow_liveness.proofs.form_laws.worked_example.Goals as goal

pub returns-clause-outcome : goal.returns-clause-outcome
returns-clause-outcome c = (_, refl, 6, refl)
