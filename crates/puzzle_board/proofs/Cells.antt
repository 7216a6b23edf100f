-- What pieces take of columns, areas and boards, and what they leave.
use Rattle.std.proofs.Common.{ℕ, zero, suc, ◌≡◌, refl, ap, Bool, true, false, not, ◌&&◌, ◌==◌, List, [], ◌∷◌, arith}
use Rattle.std.proofs.lemmas.Bool.Decides.{nat_tests}
use Rattle.puzzle_board.specs.declared.area.Area.{Area}
use Rattle.puzzle_board.specs.declared.area.Column.{Column}
use Rattle.puzzle_board.specs.declared.area.Column.TheVariants.{Both, Upper, Lower, Neither}
use Rattle.puzzle_board.specs.declared.piece.Columns.{Columns}
use Rattle.puzzle_board.specs.declared.piece.Columns.TheVariants.{Low, High, All}
use Rattle.puzzle_board.specs.declared.piece.Kind.{Kind}
use Rattle.puzzle_board.specs.declared.piece.Kind.TheVariants.{X, Y, Z}
use Rattle.puzzle_board.specs.Areas.{is_of_width, fits_column, cleared_column, fits_area, cleared, share_column}
use Rattle.puzzle_board.specs.Areas.{share_row}
use Rattle.puzzle_board.specs.Placements.{Standing, fits_at, fits, overlap, clear_at, clear}

-- ---- columns

-- a piece fits in a column that another has taken cells of where it fitted before and has no row in common with it
pub fits_column-cleared :
    (k j : Kind) (c : Column) → fits_column j (cleared_column k c) ≡ fits_column j c && not (share_row k j)
fits_column-cleared X X Both = refl
fits_column-cleared X X Upper = refl
fits_column-cleared X X Lower = refl
fits_column-cleared X X Neither = refl
fits_column-cleared X Y Both = refl
fits_column-cleared X Y Upper = refl
fits_column-cleared X Y Lower = refl
fits_column-cleared X Y Neither = refl
fits_column-cleared X Z Both = refl
fits_column-cleared X Z Upper = refl
fits_column-cleared X Z Lower = refl
fits_column-cleared X Z Neither = refl
fits_column-cleared Y X Both = refl
fits_column-cleared Y X Upper = refl
fits_column-cleared Y X Lower = refl
fits_column-cleared Y X Neither = refl
fits_column-cleared Y Y Both = refl
fits_column-cleared Y Y Upper = refl
fits_column-cleared Y Y Lower = refl
fits_column-cleared Y Y Neither = refl
fits_column-cleared Y Z Both = refl
fits_column-cleared Y Z Upper = refl
fits_column-cleared Y Z Lower = refl
fits_column-cleared Y Z Neither = refl
fits_column-cleared Z X Both = refl
fits_column-cleared Z X Upper = refl
fits_column-cleared Z X Lower = refl
fits_column-cleared Z X Neither = refl
fits_column-cleared Z Y Both = refl
fits_column-cleared Z Y Upper = refl
fits_column-cleared Z Y Lower = refl
fits_column-cleared Z Y Neither = refl
fits_column-cleared Z Z Both = refl
fits_column-cleared Z Z Upper = refl
fits_column-cleared Z Z Lower = refl
fits_column-cleared Z Z Neither = refl

-- two pieces may take their cells in either order
pub cleared_column-comm :
    (k j : Kind) (c : Column) → cleared_column k (cleared_column j c) ≡ cleared_column j (cleared_column k c)
cleared_column-comm X X Both = refl
cleared_column-comm X X Upper = refl
cleared_column-comm X X Lower = refl
cleared_column-comm X X Neither = refl
cleared_column-comm X Y Both = refl
cleared_column-comm X Y Upper = refl
cleared_column-comm X Y Lower = refl
cleared_column-comm X Y Neither = refl
cleared_column-comm X Z Both = refl
cleared_column-comm X Z Upper = refl
cleared_column-comm X Z Lower = refl
cleared_column-comm X Z Neither = refl
cleared_column-comm Y X Both = refl
cleared_column-comm Y X Upper = refl
cleared_column-comm Y X Lower = refl
cleared_column-comm Y X Neither = refl
cleared_column-comm Y Y Both = refl
cleared_column-comm Y Y Upper = refl
cleared_column-comm Y Y Lower = refl
cleared_column-comm Y Y Neither = refl
cleared_column-comm Y Z Both = refl
cleared_column-comm Y Z Upper = refl
cleared_column-comm Y Z Lower = refl
cleared_column-comm Y Z Neither = refl
cleared_column-comm Z X Both = refl
cleared_column-comm Z X Upper = refl
cleared_column-comm Z X Lower = refl
cleared_column-comm Z X Neither = refl
cleared_column-comm Z Y Both = refl
cleared_column-comm Z Y Upper = refl
cleared_column-comm Z Y Lower = refl
cleared_column-comm Z Y Neither = refl
cleared_column-comm Z Z Both = refl
cleared_column-comm Z Z Upper = refl
cleared_column-comm Z Z Lower = refl
cleared_column-comm Z Z Neither = refl

-- ---- tests

and-true : (a : Bool) → a ≡ a && true
and-true true = refl
and-true false = refl

and-middle : (a b c : Bool) → (a && c) && b ≡ (a && b) && c
and-middle true true true = refl
and-middle true true false = refl
and-middle true false true = refl
and-middle true false false = refl
and-middle false b c = refl

and-both : (a b c : Bool) → (a && c) && (b && c) ≡ (a && b) && c
and-both true true true = refl
and-both true true false = refl
and-both true false true = refl
and-both true false false = refl
and-both false b c = refl

and-assoc : (a b c : Bool) → a && (b && c) ≡ (a && b) && c
and-assoc true b c = refl
and-assoc false b c = refl

zero-is-suc : (m : ℕ) → (zero == suc m) ≡ false
zero-is-suc m = grind (arith, nat_tests)

suc-is-zero : (m : ℕ) → (suc m == zero) ≡ false
suc-is-zero m = grind (arith, nat_tests)

suc-is-suc : (i m : ℕ) → (suc i == suc m) ≡ (i == m)
suc-is-suc i m = grind (arith, nat_tests)

-- ---- areas

-- the same of an area
pub fits_area-cleared :
    (a : Area) (k j : Kind) (c d : Columns)
    → fits_area (cleared a k c) j d ≡ fits_area a j d && not (share_column c d && share_row k j)
fits_area-cleared a k j Low Low = fits_column-cleared k j a.low
fits_area-cleared a k j Low High = and-true _
fits_area-cleared a k j Low All =
    rw (fits_column-cleared k j a.low) (and-middle (fits_column j a.low) (fits_column j a.high) (not (share_row k j)))
fits_area-cleared a k j High Low = and-true _
fits_area-cleared a k j High High = fits_column-cleared k j a.high
fits_area-cleared a k j High All =
    rw (fits_column-cleared k j a.high) (and-assoc (fits_column j a.low) (fits_column j a.high) (not (share_row k j)))
fits_area-cleared a k j All Low = fits_column-cleared k j a.low
fits_area-cleared a k j All High = fits_column-cleared k j a.high
fits_area-cleared a k j All All =
    rw (fits_column-cleared k j a.low, fits_column-cleared k j a.high)
    (and-both (fits_column j a.low) (fits_column j a.high) (not (share_row k j)))

pub cleared-comm :
    (a : Area) (k j : Kind) (c d : Columns) → cleared (cleared a k c) j d ≡ cleared (cleared a j d) k c
cleared-comm a k j Low Low = rw (cleared_column-comm j k a.low)
cleared-comm a k j Low High = refl
cleared-comm a k j Low All = rw (cleared_column-comm j k a.low)
cleared-comm a k j High Low = refl
cleared-comm a k j High High = rw (cleared_column-comm j k a.high)
cleared-comm a k j High All = rw (cleared_column-comm j k a.high)
cleared-comm a k j All Low = rw (cleared_column-comm j k a.low)
cleared-comm a k j All High = rw (cleared_column-comm j k a.high)
cleared-comm a k j All All = rw (cleared_column-comm j k a.low, cleared_column-comm j k a.high)

-- ---- boards

-- the same of the areas of a board
pub fits_at-clear_at :
    (areas : List Area) (i m : ℕ) (k j : Kind) (c d : Columns)
    → fits_at (clear_at areas i k c) m j d
    ≡ fits_at areas m j d && not (i == m && (share_column c d && share_row k j))
fits_at-clear_at [] i m k j c d = refl
fits_at-clear_at (a ∷ areas) zero zero k j c d = fits_area-cleared a k j c d
fits_at-clear_at (a ∷ areas) zero (suc m) k j c d = rw (zero-is-suc m) (and-true (fits_at areas m j d))
fits_at-clear_at (a ∷ areas) (suc i) zero k j c d = rw (suc-is-zero i) (and-true (fits_area a j d))
fits_at-clear_at (a ∷ areas) (suc i) (suc m) k j c d = rw (suc-is-suc i m) (fits_at-clear_at areas i m k j c d)

pub clear_at-comm :
    (areas : List Area) (i m : ℕ) (k j : Kind) (c d : Columns)
    → clear_at (clear_at areas i k c) m j d ≡ clear_at (clear_at areas m j d) i k c
clear_at-comm [] i m k j c d = refl
clear_at-comm (a ∷ areas) zero zero k j c d = ap (λ b. b ∷ areas) (cleared-comm a k j c d)
clear_at-comm (a ∷ areas) zero (suc m) k j c d = refl
clear_at-comm (a ∷ areas) (suc i) zero k j c d = refl
clear_at-comm (a ∷ areas) (suc i) (suc m) k j c d = ap (λ more. a ∷ more) (clear_at-comm areas i m k j c d)

-- a piece fits on a board on which another has taken its cells exactly where it fitted before and has no cell in common
-- with it
pub fits-clear :
    (areas : List Area) (s t : Standing) → fits (clear areas s) t ≡ fits areas t && not (overlap s t)
fits-clear areas s t =
    rw (fits_at-clear_at areas s.spot.area t.spot.area s.piece.kind t.piece.kind s.spot.columns t.spot.columns)
    (and-assoc
    (is_of_width t.piece.width t.spot.columns)
    (fits_at areas t.spot.area t.piece.kind t.spot.columns)
    (not (overlap s t)))

pub clear-comm : (areas : List Area) (s t : Standing) → clear (clear areas s) t ≡ clear (clear areas t) s
clear-comm areas s t =
    clear_at-comm areas s.spot.area t.spot.area s.piece.kind t.piece.kind s.spot.columns t.spot.columns
