use Rattle.flow_graph.specs.Liveness.{IsUsedAt}
use Rattle.flow_liveness.specs.Lists.{Adds}
use Rattle.flow_liveness.proofs.Stepping.{Before}
use Rattle.flow_liveness.proofs.Walks.{AlongPoints}
use Rattle.flow_liveness.proofs.block_uses.add_block.Given as goal

-- what the points so far use has them
abbrev pub invariant-loop-point : goal.invariant-loop-point
invariant-loop-point l =
    Adds l.fn.uses l.uses (Before (AlongPoints l.point-items (λ user v. IsUsedAt l.graph v user)) l.point-index)
