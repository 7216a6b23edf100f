use Rattle.std.proofs.Common.{◌++◌, ◌∷◌, [], arith}
use Rattle.puzzle_board.specs.declared.piece.State.TheVariants.{Unplaced}
use Rattle.puzzle_board.specs.Stored.{piece_classes}
use Rattle.puzzle_board.proofs.Stored.{piece-more, length-piece-more}
use Rattle.puzzle_board.proofs.waiting.file_piece.Goals as goal

pub returns : goal.returns
returns g c = record {
  filed = λ pieces states is same f.
      c.file.ensures.filed 6 (piece_classes pieces states)
      (piece_classes (pieces ++ c.args.piece ∷ []) (states ++ Unplaced ∷ [])) f
      (rw (c.list_of.ensures.value, is) (piece-more pieces states c.args.piece same))
      (omega (arith, length-piece-more pieces states c.args.piece same, is, c.requires.number));
  nodes = c.file.ensures.nodes;
}
