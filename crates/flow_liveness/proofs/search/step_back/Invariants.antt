use Rattle.std.proofs.Common.{ℕ, suc, ◌≡◌, ◌<◌, ◌≤◌, ◌+◌, Some, length}
use Rattle.std.specs.List.{slice_get}
use Rattle.flow_liveness.specs.Search.{IsPassed, IsSearch, unmarked}
use Rattle.flow_liveness.proofs.search.step_back.Given as goal

-- the points so far are passed
abbrev pub invariant-loop-before : goal.invariant-loop-before
invariant-loop-before l = record {
  search : IsSearch l.graph l.var l.place l.search.nexts.items l.search.after.items l.search.used l.search.passed;
  at_head : slice_get l.search.nexts.items l.place ≡ Some (l.point, l.steps);
  passed : (i p : ℕ) → i < l.before-index → slice_get l.before-items i ≡ Some p
      → IsPassed l.search.nexts.items l.search.after.items (suc l.steps) p;
  fewer : length l.search.nexts.items + unmarked l.var l.search.passed
      ≤ length l.fn.search.nexts.items + unmarked l.var l.fn.search.passed;
}
