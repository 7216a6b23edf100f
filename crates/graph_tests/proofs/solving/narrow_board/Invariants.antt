use Rattle.std.proofs.Common.{◌≡◌, [], length}
use Rattle.puzzle_board.specs.Boards.{standing}
use Rattle.graph_tests.proofs.solving.narrow_board.Given as goal

abbrev pub invariant-loop-var : goal.invariant-loop-var
invariant-loop-var g l =
    record {
      stands : standing l.board ≡ [];
      counted : length l.board.pieces ≡ l.var;
      areas : length l.board.areas ≡ 1;
    }
