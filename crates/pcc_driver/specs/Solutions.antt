-- What `solve` puts on the output for the text of a board.
use Rattle.std.specs.Prelude.{◌≡◌, ◌⊎◌, ℕ, List, codes}
use Rattle.puzzle_board.specs.declared.area.Area.{Area}
use Rattle.puzzle_board.specs.declared.piece.Piece.{Piece}
use Rattle.puzzle_board.specs.Boards.{Puzzle, standing}
use Rattle.puzzle_board.specs.Placements.{IsLegalPlacement, IsSolvable}
use Rattle.puzzle_solver.specs.Texts.{IsNumbered, board_text, placement_text}

-- the text is that of the board with these areas and pieces
pub record IsBoardText (text : List ℕ) (areas : List Area) (pieces : List Piece) : Type 0 where
  pub numbered : IsNumbered 0 pieces
  pub text_is : text ≡ board_text areas pieces

-- the text is a board's
abbrev pub IsSomeBoard : List ℕ → Type 0
IsSomeBoard text = (areas : List Area) × (pieces : List Piece) × IsBoardText text areas pieces

-- the text of a board on which these pieces, and all of them, stand legally
pub record IsPlacementText (areas : List Area) (pieces : List Piece) (answer : List ℕ) : Type 0 where
  pub board : Puzzle
  pub areas_are : board.areas ≡ areas
  pub pieces_are : board.pieces ≡ pieces
  pub placed : IsLegalPlacement areas pieces (standing board)
  pub answer_is : answer ≡ placement_text board

-- the pieces are placed, or the answer is `none` where they have no legal placement
abbrev pub IsAnswer : List Area → List Piece → List ℕ → Type 0
IsAnswer areas pieces answer =
    IsPlacementText areas pieces answer ⊎ ((IsSolvable areas pieces → ⊥) × (answer ≡ codes "none\n"))

-- an answer on the board of the text
abbrev pub IsSolution : List ℕ → List ℕ → Type 0
IsSolution text answer =
    (areas : List Area) × (pieces : List Piece) × IsBoardText text areas pieces × IsAnswer areas pieces answer
