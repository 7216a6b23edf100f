use Rattle.std.proofs.Common.{◌≡◌, ◌++◌, map, take, drop}
use Rattle.puzzle_board.specs.Boards.{lifted}
use Rattle.puzzle_board.specs.Classes.{IsFiled}
use Rattle.puzzle_board.specs.Stored.{piece_classes}
use Rattle.puzzle_board.proofs.waiting.lift_pieces.Given as goal

abbrev pub invariant-loop-i : goal.invariant-loop-i
invariant-loop-i g l =
    (l.states ≡ map lifted (take l.i l.fn.states) ++ drop l.i l.fn.states)
    × IsFiled l.waiting 6 (piece_classes l.pieces l.states)
    × (l.waiting.nodes ≡ l.fn.waiting.nodes)
