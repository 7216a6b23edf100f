use Rattle.std.proofs.Common.{[], length, replicate}
use Rattle.flow_graph.specs.Liveness.{IsSuccessor}
use Rattle.flow_liveness.specs.Lists.{Adds}
use Rattle.flow_liveness.proofs.Stepping.{Before}
use Rattle.flow_liveness.proofs.Walks.{AlongBlocks}
use Rattle.flow_liveness.proofs.predecessors.predecessors_of.Given as goal

-- where the points of the blocks so far lead is noted
abbrev pub invariant-loop-block : goal.invariant-loop-block
invariant-loop-block l =
    Adds (replicate (length l.graph.ops) []) l.predecessors
    (Before (AlongBlocks l.graph (IsSuccessor l.graph)) l.block)
