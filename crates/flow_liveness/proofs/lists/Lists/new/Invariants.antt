use Rattle.std.proofs.Common.{◌≡◌, [], replicate}
use Rattle.flow_liveness.proofs.lists.Lists.new.Given as goal

abbrev pub invariant-loop-place : goal.invariant-loop-place
invariant-loop-place g l = l.rows.items ≡ replicate l._place []
