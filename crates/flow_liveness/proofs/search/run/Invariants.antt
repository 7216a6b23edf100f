use Rattle.std.proofs.Common.{◌+◌, ◌-◌, length}
use Rattle.flow_liveness.specs.Search.{IsSearch, unmarked}
use Rattle.flow_liveness.proofs.search.run.Given as goal

-- what stands before the head is done with
abbrev pub invariant-loop-head : goal.invariant-loop-head
invariant-loop-head l =
    IsSearch l.graph l.var l.head l.search.nexts.items l.search.after.items l.search.used l.search.passed

-- the points found and not done with, and those not passed yet
abbrev pub decreases-loop-head : goal.decreases-loop-head
decreases-loop-head l = (length l.search.nexts.items + unmarked l.var l.search.passed) - l.head
