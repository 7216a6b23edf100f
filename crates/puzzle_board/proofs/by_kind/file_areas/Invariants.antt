use Rattle.std.proofs.Common.{◌≡◌, length, take}
use Rattle.puzzle_board.specs.Classes.{IsFiled}
use Rattle.puzzle_board.specs.Stored.{area_classes}
use Rattle.puzzle_board.proofs.by_kind.file_areas.Given as goal

abbrev pub invariant-loop-i : goal.invariant-loop-i
invariant-loop-i g l = IsFiled l.by_kind 10 (area_classes (take l.i l.areas)) × (l.by_kind.nodes ≡ length l.areas)
