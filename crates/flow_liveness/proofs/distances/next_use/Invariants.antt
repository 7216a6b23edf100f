use Rattle.std.proofs.Common.{◌≡◌, ◌<◌, [], length, replicate}
use Rattle.flow_graph.specs.Liveness.{IsDistance}
use Rattle.flow_liveness.specs.Lists.{Adds}
use Rattle.flow_liveness.specs.Search.{AllEarlier}
use Rattle.flow_liveness.proofs.distances.next_use.Given as goal

-- the distances of the variables so far are listed
abbrev pub invariant-loop-var : goal.invariant-loop-var
invariant-loop-var l = record {
  listed : Adds (replicate (length l.graph.ops) []) l.distances (λ entry p.
      (entry.0 < l.var) × IsDistance l.graph entry.0 p entry.1);
  used : AllEarlier l.search.used l.var;
  passed : AllEarlier l.search.passed l.var;
  used_points : length l.search.used ≡ length l.graph.ops;
  passed_points : length l.search.passed ≡ length l.graph.ops;
}
