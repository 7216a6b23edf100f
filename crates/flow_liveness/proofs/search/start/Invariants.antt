use Rattle.std.proofs.Common.{ℕ, ◌≡◌, ◌<◌, Some, [], length}
use Rattle.std.specs.List.{slice_get}
use Rattle.flow_liveness.specs.Search.{IsStart}
use Rattle.flow_liveness.proofs.search.start.Given as goal

-- the uses so far are found
abbrev pub invariant-loop-point : goal.invariant-loop-point
invariant-loop-point l = record {
  start : IsStart l.var (λ p. (i : ℕ) × (i < l.point-index) × (slice_get l.uses i ≡ Some p)) l.search.nexts.items
      l.search.used;
  after : l.search.after.items ≡ [];
  points : length l.search.used ≡ length l.fn.search.used;
  passed : l.search.passed ≡ l.fn.search.passed;
}
