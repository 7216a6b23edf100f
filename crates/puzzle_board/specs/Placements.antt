-- Legal placements of pieces on areas, and when a puzzle has one (Quintão Pereira and Palsberg, PLDI 2008, section 2).
use Rattle.std.specs.Prelude.{ℕ, zero, suc, ◌≡◌, Bool, false, not, ◌&&◌, ◌==◌, IsTrue, List, [], ◌∷◌, map}
use Rattle.std.specs.List.{AllByRecursion}
use Rattle.puzzle_board.specs.declared.area.Area.{Area}
use Rattle.puzzle_board.specs.declared.piece.Columns.{Columns}
use Rattle.puzzle_board.specs.declared.piece.Kind.{Kind}
use Rattle.puzzle_board.specs.declared.piece.Piece.{Piece}
use Rattle.puzzle_board.specs.declared.piece.Spot.{Spot}
use Rattle.puzzle_board.specs.Areas.{is_of_width, fits_area, cleared, share_column, share_row}

-- a piece and where it stands
pub record Standing : Type 0 where
  pub piece : Piece
  pub spot : Spot

-- the cells that a piece of this kind takes in these columns of this area are there, and free
abbrev pub fits_at : List Area → ℕ → Kind → Columns → Bool
fits_at [] area kind columns = false
fits_at (a ∷ areas) zero kind columns = fits_area a kind columns
fits_at (a ∷ areas) (suc area) kind columns = fits_at areas area kind columns

-- a piece stands on as many columns as it is wide, and on free cells
abbrev pub fits : List Area → Standing → Bool
fits areas s = is_of_width s.piece.width s.spot.columns && fits_at areas s.spot.area s.piece.kind s.spot.columns

-- two pieces have a cell in common
abbrev pub overlap : Standing → Standing → Bool
overlap s t =
    s.spot.area == t.spot.area && (share_column s.spot.columns t.spot.columns && share_row s.piece.kind t.piece.kind)

-- each of these pieces stands on free cells, and no two have a cell in common
abbrev pub IsLegal : List Area → List Standing → Type 0
IsLegal areas [] = Unit {0}
IsLegal areas (s ∷ more) =
    IsTrue (fits areas s) × AllByRecursion (λ t. IsTrue (not (overlap s t))) more × IsLegal areas more

-- a legal placement of the pieces: each has a spot, in the order of the pieces
pub record IsLegalPlacement (areas : List Area) (pieces : List Piece) (placed : List Standing) : Type 0 where
  pub each : map (λ s. s.piece) placed ≡ pieces
  pub legal : IsLegal areas placed

-- a legal placement exists
abbrev pub IsSolvable : List Area → List Piece → Type 0
IsSolvable areas pieces = (placed : List Standing) × IsLegalPlacement areas pieces placed

-- ---- what a placement leaves free

-- the areas once a piece has taken its cells
abbrev pub clear_at : List Area → ℕ → Kind → Columns → List Area
clear_at [] area kind columns = []
clear_at (a ∷ areas) zero kind columns = cleared a kind columns ∷ areas
clear_at (a ∷ areas) (suc area) kind columns = a ∷ clear_at areas area kind columns

abbrev pub clear : List Area → Standing → List Area
clear areas s = clear_at areas s.spot.area s.piece.kind s.spot.columns

-- the areas once all these pieces have taken theirs
abbrev pub clear_all : List Area → List Standing → List Area
clear_all areas [] = areas
clear_all areas (s ∷ more) = clear (clear_all areas more) s
