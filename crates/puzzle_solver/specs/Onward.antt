-- What placing pieces keeps.
use Rattle.std.specs.Prelude.{◌≡◌, ◌+◌, Bool, true, false, ◌&&◌, cond, map}
use Rattle.pcc_base.specs.declared.run.Width.{Width}
use Rattle.puzzle_board.specs.declared.piece.Kind.{Kind}
use Rattle.puzzle_board.specs.declared.piece.Spot.{Spot}
use Rattle.puzzle_board.specs.declared.piece.State.{State}
use Rattle.puzzle_board.specs.declared.piece.State.TheVariants.{Unplaced, At, Removed}
use Rattle.puzzle_board.specs.Placements.{clear_at}
use Rattle.puzzle_board.specs.Boards.{Puzzle, free_areas, piece_count, same_letter, same_width}

abbrev pub is_removed : State → Bool
is_removed Unplaced = false
is_removed (At spot) = false
is_removed Removed = true

-- the same areas and pieces, of which the same are removed
pub record IsOnward (old new : Puzzle) : Type 0 where
  pub areas : new.areas ≡ old.areas
  pub pieces : new.pieces ≡ old.pieces
  pub removed : map is_removed new.states ≡ map is_removed old.states

-- a piece of this kind and width that was unplaced stands there
pub record IsFirstPlaced (kind : Kind) (width : Width) (spot : Spot) (old new : Puzzle) : Type 0 where
  pub onward : IsOnward old new
  pub free : free_areas new ≡ clear_at (free_areas old) spot.area kind spot.columns
  pub counts :
      (k : Kind) (w : Width)
      → piece_count new k w + cond (same_letter kind k && same_width width w) 1 0 ≡ piece_count old k w
