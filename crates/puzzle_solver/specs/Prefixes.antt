-- The shortest prefix of an order of variables without whose pieces a board is solvable.
use Rattle.std.specs.Prelude.{ℕ, ◌≡◌, ◌<◌, List, [], ◌∷◌, length, take}
use Rattle.puzzle_board.specs.Boards.{Puzzle, remaining, without_variable}
use Rattle.puzzle_board.specs.Placements.{IsSolvable}

-- the board with the pieces of all these variables removed
abbrev pub without_variables : Puzzle → List ℕ → Puzzle
without_variables board [] = board
without_variables board (v ∷ more) = without_variables (without_variable board v) more

-- without the pieces of these variables the board is solvable
abbrev pub Fits : Puzzle → List ℕ → Type 0
Fits board removed = IsSolvable board.areas (remaining (without_variables board removed))

-- this prefix of the order is removed, and no shorter one would do
pub record IsShortest (board : Puzzle) (order removed : List ℕ) : Type 0 where
  pub prefix : removed ≡ take (length removed) order
  pub fits : Fits board removed
  pub shorter : (n : ℕ) → n < length removed → ¬ Fits board (take n order)
