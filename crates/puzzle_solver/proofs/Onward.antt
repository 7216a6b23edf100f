-- What placing one piece keeps and changes.
use Rattle.std.proofs.Common.{ℕ, zero, suc, ◌≡◌, ◌+◌, refl, sym, ◌∙◌, ap, Bool, ◌&&◌}
use Rattle.std.proofs.Common.{cond, IsTrue, List, [], ◌∷◌, map, slice_get, slice_set, Some}
use Rattle.pcc_base.specs.declared.run.Width.{Width}
use Rattle.puzzle_board.specs.declared.piece.Kind.{Kind}
use Rattle.puzzle_board.specs.declared.piece.Spot.{Spot}
use Rattle.puzzle_board.specs.declared.piece.State.{State}
use Rattle.puzzle_board.specs.declared.piece.State.TheVariants.{Unplaced, At, Removed}
use Rattle.puzzle_board.specs.Areas.{is_of_width}
use Rattle.puzzle_board.specs.Boards.{IsPlaceable, IsUnplacedOf, Puzzle, free_areas, is_piece, piece_count, same_letter}
use Rattle.puzzle_board.specs.Boards.{same_width, with_spot}
use Rattle.puzzle_board.specs.Placements.{clear_at, fits_at}
use Rattle.puzzle_board.proofs.Standings.{clear_all-placed}
use Rattle.puzzle_board.proofs.Changes.{pieces_of-placed}
use Rattle.puzzle_solver.specs.Onward.{IsFirstPlaced, IsOnward, is_removed}

pub onward-none : (board : Puzzle) → IsOnward board board
onward-none board = record { areas = refl; pieces = refl; removed = refl }

pub onward-more : (a b c : Puzzle) → IsOnward a b → IsOnward b c → IsOnward a c
onward-more a b c first then = record {
  areas = then.areas ∙ first.areas;
  pieces = then.pieces ∙ first.pieces;
  removed = then.removed ∙ first.removed;
}

removed-placed :
    (states : List State) (i : ℕ) (spot : Spot) → slice_get states i ≡ Some Unplaced
    → map is_removed (slice_set states i (At spot)) ≡ map is_removed states
removed-placed [] i spot free = refl
removed-placed (Unplaced ∷ states) zero spot free = refl
removed-placed (At other ∷ states) zero spot free = refl
removed-placed (Removed ∷ states) zero spot free = absurd (cc)
removed-placed (s ∷ states) (suc i) spot free = ap (λ more. is_removed s ∷ more) (removed-placed states i spot free)

-- a piece of this kind and width that was unplaced stands there
pub first-placed :
    (old : Puzzle) (kind : Kind) (width : Width) (number : ℕ) (spot : Spot) → IsUnplacedOf old kind width number
    → IsFirstPlaced kind width spot old (with_spot old number spot)
first-placed old kind width number spot (p, is, free, of_kind, of_width) = record {
  onward = record { areas = refl; pieces = refl; removed = removed-placed old.states number spot free };
  free =
      clear_all-placed old.areas old.pieces old.states number p spot is free
      ∙ ap (λ (k : Kind). clear_at (free_areas old) spot.area k spot.columns) of_kind;
  counts = λ k w.
      let counted = pieces_of-placed old.pieces old.states number p spot k w is free in
      let same : is_piece k w p ≡ same_letter kind k && same_width width w = rw (of_kind, of_width) refl in
      ap {B = ℕ} (λ (b : Bool). piece_count (with_spot old number spot) k w + cond b 1 0) (sym same) ∙ counted;
}

-- such a piece may be placed there
pub placeable :
    (old : Puzzle) (kind : Kind) (width : Width) (number : ℕ) (spot : Spot) → IsUnplacedOf old kind width number
    → IsTrue (is_of_width width spot.columns) → IsTrue (fits_at (free_areas old) spot.area kind spot.columns)
    → IsPlaceable old number spot
placeable old kind width number spot (p, is, free, of_kind, of_width) wide fit = (
  p,
  record { is = is; unplaced = free },
  rw (of_kind, of_width, wide, fit) refl,
)
