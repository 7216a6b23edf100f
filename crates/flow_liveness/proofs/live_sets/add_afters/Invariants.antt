use Rattle.std.proofs.Common.{◌≡◌, Some}
use Rattle.std.specs.List.{slice_get}
use Rattle.flow_graph.specs.Liveness.{IsLiveAfter}
use Rattle.flow_liveness.specs.Lists.{Adds}
use Rattle.flow_liveness.proofs.Listing.{ListedAt}
use Rattle.flow_liveness.proofs.Stepping.{Before}
use Rattle.flow_liveness.proofs.live_sets.add_afters.Given as goal

-- the points so far have the variable
abbrev pub invariant-loop-point : goal.invariant-loop-point
invariant-loop-point l = record {
  after : Adds l.fn.sets.after l.sets.after
      (Before (ListedAt l.var (λ i p. slice_get l.after i ≡ Some p) (IsLiveAfter l.graph l.var)) l.point-index);
  before : l.sets.before ≡ l.fn.sets.before;
}
