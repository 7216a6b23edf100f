use Rattle.std.proofs.Common.{[], length, replicate}
use Rattle.flow_graph.specs.Liveness.{IsUsedAt}
use Rattle.flow_liveness.specs.Lists.{Adds}
use Rattle.flow_liveness.proofs.Stepping.{Before}
use Rattle.flow_liveness.proofs.Walks.{AlongBlocks}
use Rattle.flow_liveness.proofs.uses.uses_of.Given as goal

-- what the points of the blocks so far use has them
abbrev pub invariant-loop-block : goal.invariant-loop-block
invariant-loop-block l =
    Adds (replicate (length l.graph.widths) []) l.uses
    (Before (AlongBlocks l.graph (λ user v. IsUsedAt l.graph v user)) l.block)
