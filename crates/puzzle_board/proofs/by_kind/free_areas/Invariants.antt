use Rattle.std.proofs.Common.{◌≡◌, ◌++◌, take, drop}
use Rattle.puzzle_board.specs.Classes.{IsFiled}
use Rattle.puzzle_board.specs.Stored.{area_classes}
use Rattle.puzzle_board.proofs.by_kind.free_areas.Given as goal

abbrev pub invariant-loop-i : goal.invariant-loop-i
invariant-loop-i g l =
    (l.free ≡ take l.i l.areas ++ drop l.i l.fn.free) × IsFiled l.by_kind 10 (area_classes l.free)
