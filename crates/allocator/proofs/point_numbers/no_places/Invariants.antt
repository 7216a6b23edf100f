use Rattle.std.proofs.Common.{◌≡◌, None, replicate}
use Rattle.allocator.proofs.point_numbers.no_places.Given as goal

abbrev pub invariant-loop-point : goal.invariant-loop-point
invariant-loop-point l = l.places.items ≡ replicate l._point None
