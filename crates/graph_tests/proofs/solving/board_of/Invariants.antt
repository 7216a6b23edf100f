use Rattle.std.proofs.Common.{◌≡◌, [], length}
use Rattle.puzzle_board.specs.Boards.{standing}
use Rattle.graph_tests.proofs.solving.board_of.Given as goal

abbrev pub invariant-loop-piece : goal.invariant-loop-piece
invariant-loop-piece g l =
    record { stands : standing l.board ≡ []; counted : length l.board.pieces ≡ l.piece-index }
