-- When a board is solved.
use Rattle.puzzle_board.specs.Boards.{Puzzle, remaining, standing}
use Rattle.puzzle_board.specs.Placements.{IsLegalPlacement}
use Rattle.puzzle_solver.specs.Onward.{IsOnward}

-- every piece that isn't removed is placed, and legally
pub record IsSolved (old new : Puzzle) : Type 0 where
  pub onward : IsOnward old new
  pub placed : IsLegalPlacement new.areas (remaining new) (standing new)
