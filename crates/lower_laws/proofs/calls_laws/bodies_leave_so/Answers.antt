use Rattle.lower_laws.proofs.Leaving.{bodies-leave}
use Rattle.lower_laws.proofs.calls_laws.bodies_leave_so.Goals as goal

pub returns : goal.returns
returns c = bodies-leave
