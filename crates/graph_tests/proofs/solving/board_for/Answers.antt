use Rattle.std.proofs.Common.{◌∙◌, ap, length}
use Rattle.puzzle_board.specs.Boards.{Puzzle, remaining}
use Rattle.graph_tests.proofs.Ordered.{counted-step, narrow-step}
use Rattle.graph_tests.proofs.solving.board_for.Goals as goal

pub loop-candidate-preserved : goal.loop-candidate-preserved
loop-candidate-preserved g c =
    let i = c.loop-candidate.candidate-index in record {
      stands = c.in_ok-add_piece.ensures.stands ∙ c.loop-candidate.invariant.stands;
      counted =
          ap (λ (b : Puzzle). length b.pieces) c.in_ok-add_piece.ensures.added.1
          ∙ counted-step c.loop-candidate.board _ i c.loop-candidate.invariant.counted;
      remain =
          ap (λ (b : Puzzle). remaining b) c.in_ok-add_piece.ensures.added.1
          ∙ narrow-step c.loop-candidate.board c.args.candidates.now i _ c.is_board.ensures.states
          c.loop-candidate-test.true c.loop-candidate.invariant.remain;
    }
