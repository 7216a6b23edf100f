use Rattle.std.proofs.Common.{◌≡◌, take}
use Rattle.puzzle_board.specs.Boards.{removed_in}
use Rattle.puzzle_board.specs.Classes.{IsFiled}
use Rattle.puzzle_board.specs.Stored.{piece_classes}
use Rattle.puzzle_board.proofs.waiting.remove_pieces.Given as goal

abbrev pub invariant-loop-i : goal.invariant-loop-i
invariant-loop-i g l =
    (l.states ≡ removed_in (take l.i l.pieces) l.fn.states l.var)
    × IsFiled l.waiting 6 (piece_classes l.pieces l.states)
    × (l.waiting.nodes ≡ l.fn.waiting.nodes)
