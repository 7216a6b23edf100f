use Rattle.std.proofs.Common.{◌≡◌, [], replicate}
use Rattle.puzzle_board.proofs.point_map.PointMap.new.Given as goal

abbrev pub invariant-loop-point : goal.invariant-loop-point
invariant-loop-point l =
    (l.before.items ≡ replicate l._point []) × (l.after.items ≡ replicate l._point [])
    × (l.spilled.items ≡ replicate l._point [])
