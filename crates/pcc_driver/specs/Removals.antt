-- What `least` puts on the output for the text of a board.
use Rattle.std.specs.Prelude.{◌≡◌, ◌<◌, ◌⊎◌, ℕ, List, [], ◌∷◌, ◌++◌, codes, decimal, length, map}
use Rattle.pcc_base.specs.Ascii.{newline}
use Rattle.puzzle_board.specs.declared.area.Area.{Area}
use Rattle.puzzle_board.specs.declared.piece.Piece.{Piece}
use Rattle.puzzle_board.specs.Boards.{Puzzle}
use Rattle.puzzle_solver.specs.Prefixes.{without_variables}
use Rattle.puzzle_solver.specs.Reading.{fresh_board}
use Rattle.puzzle_solver.specs.Solved.{IsSolved}
use Rattle.puzzle_solver.specs.Texts.{placement_text, spaced}
use Rattle.least_spill.specs.Least.{IsLeast}
use Rattle.pcc_driver.specs.Solutions.{IsBoardText}

-- the most areas, and the most pieces, of a board that `least` takes
abbrev pub area_limit : ℕ
area_limit = 64

abbrev pub piece_limit : ℕ
piece_limit = 256

-- so many areas or pieces are more
abbrev pub AreMany : ℕ → ℕ → Type 0
AreMany areas pieces = (area_limit < areas) ⊎ (piece_limit < pieces)

-- the text is that of a board of so many areas and pieces, more than `least` takes
abbrev pub IsLargeBoard : ℕ → ℕ → List ℕ → Type 0
IsLargeBoard n m text =
    (areas : List Area) × (pieces : List Piece) × IsBoardText text areas pieces × (length areas ≡ n)
    × (length pieces ≡ m) × AreMany n m

-- a line with `removed` and these numbers, each behind a space
abbrev pub removed_line : List ℕ → List ℕ
removed_line numbers = codes "removed" ++ (spaced (map decimal numbers) ++ newline ∷ [])

-- The line of the pieces that are removed, the fewest without which the board is solvable (piece i has variable i), and
-- behind it the text of a board on which the other pieces, and all of them, stand legally.
pub record IsRemoval (areas : List Area) (pieces : List Piece) (answer : List ℕ) : Type 0 where
  pub removed : List ℕ
  pub board : Puzzle
  pub least : IsLeast (fresh_board areas pieces) removed
  pub placed : IsSolved (without_variables (fresh_board areas pieces) removed) board
  pub answer_is : answer ≡ removed_line removed ++ placement_text board

-- the same for the board of the text, which isn't too large
abbrev pub IsRemovalOf : List ℕ → List ℕ → Type 0
IsRemovalOf text answer =
    (areas : List Area) × (pieces : List Piece) × IsBoardText text areas pieces
    × (AreMany (length areas) (length pieces) → ⊥) × IsRemoval areas pieces answer
