use Rattle.std.proofs.Common.{◌≡◌}
use Rattle.flow_graph.specs.Liveness.{IsLiveBefore}
use Rattle.flow_liveness.specs.Lists.{Adds}
use Rattle.flow_liveness.proofs.Listing.{FoundAt, ListedAt}
use Rattle.flow_liveness.proofs.Stepping.{Before}
use Rattle.flow_liveness.proofs.live_sets.add_befores.Given as goal

-- the points so far have the variable, where it is live before them
abbrev pub invariant-loop-point : goal.invariant-loop-point
invariant-loop-point l = record {
  before : Adds l.fn.sets.before l.sets.before
      (Before (ListedAt l.var (FoundAt l.nexts) (IsLiveBefore l.graph l.var)) l.point-index);
  after : l.sets.after ≡ l.fn.sets.after;
}
