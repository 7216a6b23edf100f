-- Columns in order, and enough of them for pieces of width One.
use Rattle.std.specs.Prelude.{ℕ, zero, suc, ◌≡◌, ◌+◌, ◌≤◌, false, ◌&&◌, ◌⊎◌, cond, nat_lt, List, [], ◌∷◌}
use Rattle.pcc_base.specs.declared.run.Width.TheVariants.{One, Two}
use Rattle.puzzle_board.specs.declared.area.Area.{Area}
use Rattle.puzzle_board.specs.declared.area.Column.{Column}
use Rattle.puzzle_board.specs.declared.piece.Columns.{Columns}
use Rattle.puzzle_board.specs.declared.piece.Columns.TheVariants.{Low, High, All}
use Rattle.puzzle_board.specs.declared.piece.Kind.{Kind}
use Rattle.puzzle_board.specs.declared.piece.Kind.TheVariants.{X, Y, Z}
use Rattle.puzzle_board.specs.declared.piece.Spot.{Spot}
use Rattle.puzzle_board.specs.Areas.{fits_column, share_column}
use Rattle.puzzle_board.specs.Boards.{Puzzle, free_areas, piece_count}
use Rattle.puzzle_board.specs.Placements.{fits_at}
use Rattle.puzzle_solver.specs.Onward.{IsFirstPlaced, IsOnward}

-- the columns of these areas, in order
abbrev pub columns : List Area → List Column
columns [] = []
columns (a ∷ areas) = a.low ∷ a.high ∷ columns areas

-- the columns from an area on
abbrev pub columns_from : List Area → ℕ → List Column
columns_from [] area = []
columns_from (a ∷ areas) zero = columns (a ∷ areas)
columns_from (a ∷ areas) (suc area) = columns_from areas area

-- the columns behind these of an area
abbrev pub columns_behind : List Area → ℕ → Columns → List Column
columns_behind [] area c = []
columns_behind (a ∷ areas) zero Low = a.high ∷ columns areas
columns_behind (a ∷ areas) zero High = columns areas
columns_behind (a ∷ areas) zero All = columns areas
columns_behind (a ∷ areas) (suc area) c = columns_behind areas area c

-- how many of these columns a piece of this kind and of width One fits in
abbrev pub room : Kind → List Column → ℕ
room kind [] = 0
room kind (c ∷ more) = cond (fits_column kind c) 1 0 + room kind more

-- there is room for so many X, Y and Z
pub record IsRoom (x y z : ℕ) (cs : List Column) : Type 0 where
  pub both : y ≤ room Y cs
  pub upper : y + x ≤ room X cs
  pub lower : y + z ≤ room Z cs

-- so many X, Y and Z of width One are unplaced, and nothing else
pub record IsWaiting (board : Puzzle) (x y z : ℕ) : Type 0 where
  pub x1 : piece_count board X One ≡ x
  pub y1 : piece_count board Y One ≡ y
  pub z1 : piece_count board Z One ≡ z
  pub x2 : piece_count board X Two ≡ 0
  pub y2 : piece_count board Y Two ≡ 0
  pub z2 : piece_count board Z Two ≡ 0

-- 1 where a piece waits that fits in the column, else 0
abbrev pub used : ℕ → Kind → Column → ℕ
used waiting kind column = cond (nat_lt 0 waiting && fits_column kind column) 1 0

-- pieces were placed in these columns of an area: the areas behind it are free as before, and so are its other columns
pub record IsChanged (spot : Spot) (old new : Puzzle) : Type 0 where
  pub onward : IsOnward old new
  pub behind : columns_behind (free_areas new) spot.area High ≡ columns_behind (free_areas old) spot.area High
  pub others :
      (kind : Kind) (c : Columns) → share_column spot.columns c ≡ false
      → fits_at (free_areas new) spot.area kind c ≡ fits_at (free_areas old) spot.area kind c

-- a piece of this kind and of width One was placed if there was one that fits, and nothing else has changed
abbrev pub PlacedIfAny : Kind → ℕ → Spot → Puzzle → Puzzle → Type 0
PlacedIfAny kind n spot old new = (n ≡ 0) × (new ≡ old) ⊎ (n ≡ 1) × IsFirstPlaced kind One spot old new
