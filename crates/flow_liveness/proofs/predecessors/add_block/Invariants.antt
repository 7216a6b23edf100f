use Rattle.flow_graph.specs.Liveness.{IsSuccessor}
use Rattle.flow_liveness.specs.Lists.{Adds}
use Rattle.flow_liveness.proofs.Stepping.{Before}
use Rattle.flow_liveness.proofs.Walks.{AlongPoints}
use Rattle.flow_liveness.proofs.predecessors.add_block.Given as goal

-- where the points so far lead is noted
abbrev pub invariant-loop-place : goal.invariant-loop-place
invariant-loop-place l =
    Adds l.fn.predecessors l.predecessors (Before (AlongPoints l.points.items (IsSuccessor l.graph)) l.place)
