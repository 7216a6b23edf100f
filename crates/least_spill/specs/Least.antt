-- The fewest variables without whose pieces a board is solvable.
use Rattle.std.specs.Prelude.{ℕ, ◌≡◌, ◌≤◌, List, length, Some, slice_get}
use Rattle.std.specs.List.Sorted.{IsStrictlyIncreasing}
use Rattle.puzzle_board.specs.declared.piece.Piece.{Piece}
use Rattle.puzzle_board.specs.Boards.{Puzzle}
use Rattle.puzzle_solver.specs.Prefixes.{Fits}

-- no two pieces have one variable
abbrev pub HasOneEach : Puzzle → Type 0
HasOneEach board =
    (i j : ℕ) (p q : Piece) → slice_get board.pieces i ≡ Some p → slice_get board.pieces j ≡ Some q
    → p.var ≡ q.var → i ≡ j

-- these variables ascend, without their pieces the board is solvable, and no fewer variables would do
pub record IsLeast (board : Puzzle) (removed : List ℕ) : Type 0 where
  pub ascending : IsStrictlyIncreasing removed
  pub fits : Fits board removed
  pub least : (other : List ℕ) → Fits board other → length removed ≤ length other
