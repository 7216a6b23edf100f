use Rattle.std.proofs.Common.{◌≡◌, [], length, map, take}
use Rattle.puzzle_board.specs.Boards.{remaining, standing}
use Rattle.graph_tests.specs.Narrow.{narrow_of}
use Rattle.graph_tests.proofs.solving.board_for.Given as goal

abbrev pub invariant-loop-candidate : goal.invariant-loop-candidate
invariant-loop-candidate g l =
    record {
      stands : standing l.board ≡ [];
      counted : length l.board.pieces ≡ l.candidate-index;
      remain : remaining l.board ≡ map narrow_of (take l.candidate-index l.candidates);
    }
