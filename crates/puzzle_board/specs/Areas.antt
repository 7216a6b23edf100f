-- The cells of an area, and what a piece takes of them. An area has two columns of two rows; the upper row is before
-- the instruction and the lower row after it (Quintão Pereira and Palsberg, "Register Allocation by Puzzle Solving",
-- PLDI 2008, puzzles of type 1).
use Rattle.std.specs.Prelude.{ℕ, Bool, true, false, ◌&&◌, ◌==◌}
use Rattle.pcc_base.specs.declared.run.Width.{Width}
use Rattle.pcc_base.specs.declared.run.Width.TheVariants.{One, Two}
use Rattle.puzzle_board.specs.declared.area.Area.{Area}
use Rattle.puzzle_board.specs.declared.area.AreaKind.{AreaKind}
use Rattle.puzzle_board.specs.declared.area.AreaKind.TheVariants.{E, U1, L1, C, U0, L0, UpperLower, UpperNone}
use Rattle.puzzle_board.specs.declared.area.AreaKind.TheVariants.{LowerNone, Full}
use Rattle.puzzle_board.specs.declared.area.Column.{Column}
use Rattle.puzzle_board.specs.declared.area.Column.TheVariants.{Both, Upper, Lower, Neither}
use Rattle.puzzle_board.specs.declared.piece.Columns.{Columns}
use Rattle.puzzle_board.specs.declared.piece.Columns.TheVariants.{Low, High, All}
use Rattle.puzzle_board.specs.declared.piece.Kind.{Kind}
use Rattle.puzzle_board.specs.declared.piece.Kind.TheVariants.{X, Y, Z}

-- ---- what a piece takes

-- a piece of width One takes one column, one of width Two all
abbrev pub is_of_width : Width → Columns → Bool
is_of_width One Low = true
is_of_width One High = true
is_of_width One All = false
is_of_width Two Low = false
is_of_width Two High = false
is_of_width Two All = true

-- X takes the upper row of a column, Z the lower, Y both: these cells are free
abbrev pub fits_column : Kind → Column → Bool
fits_column X Both = true
fits_column X Upper = true
fits_column X Lower = false
fits_column X Neither = false
fits_column Y Both = true
fits_column Y Upper = false
fits_column Y Lower = false
fits_column Y Neither = false
fits_column Z Both = true
fits_column Z Upper = false
fits_column Z Lower = true
fits_column Z Neither = false

-- what is free of a column once a piece has taken its cells
abbrev pub cleared_column : Kind → Column → Column
cleared_column X Both = Lower
cleared_column X Upper = Neither
cleared_column X Lower = Lower
cleared_column X Neither = Neither
cleared_column Y Both = Neither
cleared_column Y Upper = Neither
cleared_column Y Lower = Neither
cleared_column Y Neither = Neither
cleared_column Z Both = Upper
cleared_column Z Upper = Upper
cleared_column Z Lower = Neither
cleared_column Z Neither = Neither

-- the cells that a piece of this kind takes in these columns of the area are free
abbrev pub fits_area : Area → Kind → Columns → Bool
fits_area a kind Low = fits_column kind a.low
fits_area a kind High = fits_column kind a.high
fits_area a kind All = fits_column kind a.low && fits_column kind a.high

-- what is free of an area once a piece has taken its cells
abbrev pub cleared : Area → Kind → Columns → Area
cleared a kind Low = record { low = cleared_column kind a.low; high = a.high }
cleared a kind High = record { low = a.low; high = cleared_column kind a.high }
cleared a kind All = record { low = cleared_column kind a.low; high = cleared_column kind a.high }

-- two pieces of one area have a column in common
abbrev pub share_column : Columns → Columns → Bool
share_column Low Low = true
share_column Low High = false
share_column Low All = true
share_column High Low = false
share_column High High = true
share_column High All = true
share_column All Low = true
share_column All High = true
share_column All All = true

-- two pieces of one column have a row in common: all but an X and a Z
abbrev pub share_row : Kind → Kind → Bool
share_row X X = true
share_row X Y = true
share_row X Z = false
share_row Y X = true
share_row Y Y = true
share_row Y Z = true
share_row Z X = false
share_row Z Y = true
share_row Z Z = true

-- ---- kinds of areas

abbrev pub kind_of_columns : Column → Column → AreaKind
kind_of_columns Both Both = E
kind_of_columns Both Upper = U1
kind_of_columns Both Lower = L1
kind_of_columns Both Neither = C
kind_of_columns Upper Both = U1
kind_of_columns Upper Upper = U0
kind_of_columns Upper Lower = UpperLower
kind_of_columns Upper Neither = UpperNone
kind_of_columns Lower Both = L1
kind_of_columns Lower Upper = UpperLower
kind_of_columns Lower Lower = L0
kind_of_columns Lower Neither = LowerNone
kind_of_columns Neither Both = C
kind_of_columns Neither Upper = UpperNone
kind_of_columns Neither Lower = LowerNone
kind_of_columns Neither Neither = Full

-- the kind of an area; the order of its columns doesn't matter
abbrev pub kind_of : Area → AreaKind
kind_of a = kind_of_columns a.low a.high

-- the kinds in the order in which they are named
abbrev pub place_of_kind : AreaKind → ℕ
place_of_kind E = 0
place_of_kind U1 = 1
place_of_kind L1 = 2
place_of_kind C = 3
place_of_kind U0 = 4
place_of_kind L0 = 5
place_of_kind UpperLower = 6
place_of_kind UpperNone = 7
place_of_kind LowerNone = 8
place_of_kind Full = 9

-- two kinds are the same
abbrev pub same_kind : AreaKind → AreaKind → Bool
same_kind j k = place_of_kind j == place_of_kind k
