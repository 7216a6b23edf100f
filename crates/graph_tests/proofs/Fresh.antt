-- Nothing stands on a board that was read.
use Rattle.std.proofs.Common.{◌≡◌, List, [], ◌∷◌, map, refl, ap, ◌∙◌}
use Rattle.puzzle_board.specs.declared.piece.Piece.{Piece}
use Rattle.puzzle_board.specs.declared.piece.State.TheVariants.{Unplaced}
use Rattle.puzzle_board.specs.Boards.{Puzzle, standing, standing_in}
use Rattle.puzzle_solver.specs.Reading.{fresh_board}

none-stands : (pieces : List Piece) → standing_in pieces (map (λ (p : Piece). Unplaced) pieces) ≡ []
none-stands [] = refl
none-stands (p ∷ pieces) = none-stands pieces

pub fresh-stands : (board : Puzzle) → board ≡ fresh_board board.areas board.pieces → standing board ≡ []
fresh-stands board fresh = ap (λ (b : Puzzle). standing b) fresh ∙ none-stands board.pieces
