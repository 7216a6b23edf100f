use Rattle.flow_liveness.specs.Lists.{Adds}
use Rattle.flow_liveness.proofs.Listing.{DistanceAt}
use Rattle.flow_liveness.proofs.Stepping.{Before}
use Rattle.flow_liveness.proofs.distances.add_all.Given as goal

-- the distances so far are listed
abbrev pub invariant-loop-point : goal.invariant-loop-point
invariant-loop-point l = Adds l.fn.distances l.distances (Before (DistanceAt l.nexts l.var) l.point-index)
