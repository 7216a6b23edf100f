-- A board and its counts, with one piece more in its place.
use Rattle.std.proofs.Common.{ℕ, zero, suc, ◌≡◌, ◌+◌, refl, ap, List, [], ◌∷◌}
use Rattle.std.proofs.Common.{slice_get, Some, arith}
use Rattle.std.proofs.lemmas.List.Sums.{sum_by-cons}
use Rattle.pcc_base.specs.declared.run.Width.TheVariants.{One, Two}
use Rattle.puzzle_board.specs.declared.area.Area.{Area}
use Rattle.puzzle_board.specs.declared.area.AreaKind.{AreaKind}
use Rattle.puzzle_board.specs.declared.area.AreaKind.TheVariants.{E, U1, L1, C, U0, L0, UpperLower, UpperNone}
use Rattle.puzzle_board.specs.declared.area.AreaKind.TheVariants.{LowerNone}
use Rattle.puzzle_board.specs.declared.piece.Columns.{Columns}
use Rattle.puzzle_board.specs.declared.piece.Kind.{Kind}
use Rattle.puzzle_board.specs.declared.piece.Kind.TheVariants.{X, Y, Z}
use Rattle.puzzle_board.specs.declared.piece.Piece.{Piece}
use Rattle.puzzle_board.specs.declared.piece.Spot.{Spot}
use Rattle.puzzle_board.specs.Areas.{cleared, fits_area, kind_of}
use Rattle.puzzle_board.specs.Boards.{IsPlaceable, IsUnplaced, Puzzle, area_count, free_areas, with_spot}
use Rattle.puzzle_board.specs.Placements.{clear_at, fits_at}
use Rattle.puzzle_board.specs.Worth.{worth}
use Rattle.puzzle_solver.specs.declared.near_counts.BoardCounts.{BoardCounts}
use Rattle.puzzle_solver.specs.Filling.{one}
use Rattle.puzzle_solver.specs.Near.{FitsWithRest, IsCounted}
use Rattle.puzzle_solver.specs.Onward.{IsFirstPlaced, IsOnward}
use Rattle.puzzle_solver.proofs.Onward.{first-placed}

-- ---- the area that was read

-- a piece fits on the board where it fits in the area
fits-read :
    (areas : List Area) (i : ℕ) (a : Area) (k : Kind) (c : Columns) → slice_get areas i ≡ Some a
    → fits_at areas i k c ≡ fits_area a k c
fits-read [] i a k c is = absurd (cc)
fits-read (b ∷ areas) zero a k c is =
    let same : b ≡ a = cc in
    ap (λ (x : Area). fits_area x k c) same
fits-read (b ∷ areas) (suc i) a k c is = fits-read areas i a k c is

-- the worth of a board once a piece has taken its cells of the area
worth-placed :
    (prices : AreaKind → ℕ) (areas : List Area) (i : ℕ) (a : Area) (k : Kind) (c : Columns)
    → slice_get areas i ≡ Some a
    → worth prices (clear_at areas i k c) + prices (kind_of a) ≡ worth prices areas + prices (kind_of (cleared a k c))
worth-placed prices [] i a k c is = absurd (cc)
worth-placed prices (b ∷ areas) zero a k c is =
    let same : b ≡ a = cc in
    omega (
      arith,
      sum_by-cons (λ x. prices (kind_of x)) b areas,
      sum_by-cons (λ x. prices (kind_of x)) (cleared b k c) areas,
      ap (λ (x : Area). prices (kind_of x)) same,
      ap (λ (x : Area). prices (kind_of (cleared x k c))) same,
    )
worth-placed prices (b ∷ areas) (suc i) a k c is =
    omega (
      arith,
      sum_by-cons (λ x. prices (kind_of x)) b areas,
      sum_by-cons (λ x. prices (kind_of x)) b (clear_at areas i k c),
      worth-placed prices areas i a k c is,
    )

-- ---- one piece more in its place

-- a piece that waits may be placed where it fits
pub near-placeable :
    (old : Puzzle) (n rest : BoardCounts) (number : ℕ) (p : Piece) (a : Area) (spot : Spot) → IsUnplaced old number p
    → slice_get (free_areas old) spot.area ≡ Some a → FitsWithRest n rest p a spot.columns
    → IsPlaceable old number spot
near-placeable old n rest number p a spot waits read fit = (
  p,
  waits,
  rw (fit.wide, fits-read (free_areas old) spot.area a p.kind spot.columns read, fit.fits) refl,
)

near-first :
    (old : Puzzle) (number : ℕ) (p : Piece) (spot : Spot) → IsUnplaced old number p
    → IsFirstPlaced p.kind p.width spot old (with_spot old number spot)
near-first old number p spot waits =
    first-placed old p.kind p.width number spot (p, waits.is, waits.unplaced, refl, refl)

pub near-onward :
    (old : Puzzle) (number : ℕ) (p : Piece) (spot : Spot) → IsUnplaced old number p
    → IsOnward old (with_spot old number spot)
near-onward old number p spot waits = (near-first old number p spot waits).onward

-- the new counts are those of the board with the piece in its place
pub near-counted :
    (old : Puzzle) (n rest : BoardCounts) (number : ℕ) (p : Piece) (a : Area) (spot : Spot) → IsCounted old n
    → IsUnplaced old number p → slice_get (free_areas old) spot.area ≡ Some a → FitsWithRest n rest p a spot.columns
    → IsCounted (with_spot old number spot) rest
near-counted old n rest number p a spot counted waits read fit = record {
  areas = record {
    e = omega (arith, area E, counted.areas.e, fit.areas.e);
    u1 = omega (arith, area U1, counted.areas.u1, fit.areas.u1);
    l1 = omega (arith, area L1, counted.areas.l1, fit.areas.l1);
    c = omega (arith, area C, counted.areas.c, fit.areas.c);
    u0 = omega (arith, area U0, counted.areas.u0, fit.areas.u0);
    l0 = omega (arith, area L0, counted.areas.l0, fit.areas.l0);
    upper_lower = omega (arith, area UpperLower, counted.areas.upper_lower, fit.areas.upper_lower);
    upper_none = omega (arith, area UpperNone, counted.areas.upper_none, fit.areas.upper_none);
    lower_none = omega (arith, area LowerNone, counted.areas.lower_none, fit.areas.lower_none);
  };
  pieces = record {
    x1 = omega (arith, placed.counts X One, counted.pieces.x1, fit.pieces.x1);
    x2 = omega (arith, placed.counts X Two, counted.pieces.x2, fit.pieces.x2);
    y1 = omega (arith, placed.counts Y One, counted.pieces.y1, fit.pieces.y1);
    y2 = omega (arith, placed.counts Y Two, counted.pieces.y2, fit.pieces.y2);
    z1 = omega (arith, placed.counts Z One, counted.pieces.z1, fit.pieces.z1);
    z2 = omega (arith, placed.counts Z Two, counted.pieces.z2, fit.pieces.z2);
  };
  bounded = fit.bounded;
} where
  placed : IsFirstPlaced p.kind p.width spot old (with_spot old number spot)
  placed = near-first old number p spot waits

  area :
      (k : AreaKind)
      → area_count (with_spot old number spot) k + one k (kind_of a)
      ≡ area_count old k + one k (kind_of (cleared a p.kind spot.columns))
  area k =
      let free = ap (λ areas. worth (one k) areas) placed.free in
      omega (arith, free, worth-placed (one k) (free_areas old) spot.area a p.kind spot.columns read)
