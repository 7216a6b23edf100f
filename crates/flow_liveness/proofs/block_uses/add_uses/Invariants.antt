use Rattle.flow_graph.specs.Liveness.{uses}
use Rattle.flow_liveness.specs.Lists.{Adds}
use Rattle.flow_liveness.proofs.Stepping.{Before}
use Rattle.flow_liveness.proofs.Using.{UseAt}
use Rattle.flow_liveness.proofs.block_uses.add_uses.Given as goal

-- the variables so far have the point
abbrev pub invariant-loop-place : goal.invariant-loop-place
invariant-loop-place l = Adds l.fn.uses l.uses (Before (UseAt l.point (uses l.op)) l.place)
