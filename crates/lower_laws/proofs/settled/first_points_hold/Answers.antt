use Rattle.lower_laws.proofs.First.{first-points-hold}
use Rattle.lower_laws.proofs.settled.first_points_hold.Goals as goal

pub returns : goal.returns
returns c = first-points-hold
