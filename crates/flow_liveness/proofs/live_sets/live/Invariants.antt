use Rattle.std.proofs.Common.{◌≡◌, ◌<◌, [], length, replicate}
use Rattle.flow_graph.specs.Liveness.{IsLiveAfter, IsLiveBefore}
use Rattle.flow_liveness.specs.Lists.{Adds}
use Rattle.flow_liveness.specs.Search.{AllEarlier}
use Rattle.flow_liveness.proofs.live_sets.live.Given as goal

-- the variables so far are listed where they are live
abbrev pub invariant-loop-var : goal.invariant-loop-var
invariant-loop-var l = record {
  before : Adds (replicate (length l.graph.ops) []) l.sets.before (λ v p. (v < l.var) × IsLiveBefore l.graph v p);
  after : Adds (replicate (length l.graph.ops) []) l.sets.after (λ v p. (v < l.var) × IsLiveAfter l.graph v p);
  used : AllEarlier l.search.used l.var;
  passed : AllEarlier l.search.passed l.var;
  used_points : length l.search.used ≡ length l.graph.ops;
  passed_points : length l.search.passed ≡ length l.graph.ops;
}
