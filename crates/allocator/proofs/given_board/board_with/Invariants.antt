use Rattle.std.proofs.Common.{◌≡◌, take}
use Rattle.allocator.specs.PointPuzzles.{puzzle_of}
use Rattle.allocator.proofs.given_board.board_with.Given as goal

abbrev pub invariant-loop-i : goal.invariant-loop-i
invariant-loop-i g l = l.board ≡ puzzle_of l.areas (take l.i l.pieces)
