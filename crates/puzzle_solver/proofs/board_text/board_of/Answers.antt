use Rattle.std.proofs.Common.{ap, arith, length, refl}
use Rattle.puzzle_board.specs.Boards.{Puzzle}
use Rattle.puzzle_solver.proofs.Boards.{fresh-more, length-from}
use Rattle.puzzle_solver.proofs.board_text.board_of.Goals as goal

pub add_piece-requires : goal.add_piece-requires
add_piece-requires g c =
    omega (
      arith,
      ap (λ (b : Puzzle). length b.pieces) c.loop-i.invariant,
      length-from 0 c.args.shapes.now c.loop-i.i c.loop-i.auto.i-end,
      c.loop-i-test.true,
      c.requires.shapes,
    )

pub loop-i-preserved : goal.loop-i-preserved
loop-i-preserved g c =
    fresh-more c.args.areas.now c.args.shapes.now c.loop-i.i _ c.loop-i.board c.add_piece.new.self _ c.loop-i-test.true
    c.loop-i.invariant c.in_ok-add_piece.ensures.added.1 refl
