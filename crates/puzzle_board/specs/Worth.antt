-- What areas are worth at a price by kind, and what a piece of width Two leaves of an area.
use Rattle.std.specs.Prelude.{ℕ, if◌then◌else◌, List, sum_by, Option, Some, None}
use Rattle.puzzle_board.specs.declared.area.Area.{Area}
use Rattle.puzzle_board.specs.declared.area.AreaKind.{AreaKind}
use Rattle.puzzle_board.specs.declared.area.AreaKind.TheVariants.{E, U1, L1, C, U0, L0, UpperLower, UpperNone}
use Rattle.puzzle_board.specs.declared.area.AreaKind.TheVariants.{LowerNone, Full}
use Rattle.puzzle_board.specs.declared.area.Column.TheVariants.{Both, Upper, Lower, Neither}
use Rattle.puzzle_board.specs.declared.piece.Columns.TheVariants.{All}
use Rattle.puzzle_board.specs.declared.piece.Kind.{Kind}
use Rattle.puzzle_board.specs.Areas.{cleared, fits_area, kind_of}

-- what an area of each kind is worth
abbrev pub price : (e u1 l1 c u0 l0 upper_lower upper_none lower_none : ℕ) → AreaKind → ℕ
price e u1 l1 c u0 l0 upper_lower upper_none lower_none E = e
price e u1 l1 c u0 l0 upper_lower upper_none lower_none U1 = u1
price e u1 l1 c u0 l0 upper_lower upper_none lower_none L1 = l1
price e u1 l1 c u0 l0 upper_lower upper_none lower_none C = c
price e u1 l1 c u0 l0 upper_lower upper_none lower_none U0 = u0
price e u1 l1 c u0 l0 upper_lower upper_none lower_none L0 = l0
price e u1 l1 c u0 l0 upper_lower upper_none lower_none UpperLower = upper_lower
price e u1 l1 c u0 l0 upper_lower upper_none lower_none UpperNone = upper_none
price e u1 l1 c u0 l0 upper_lower upper_none lower_none LowerNone = lower_none
price e u1 l1 c u0 l0 upper_lower upper_none lower_none Full = 0

abbrev pub worth : (AreaKind → ℕ) → List Area → ℕ
worth prices areas = sum_by (λ a. prices (kind_of a)) areas

-- the columns with both rows free
abbrev pub both_price : AreaKind → ℕ
both_price = price 2 1 1 1 0 0 0 0 0

-- the free cells of the upper row
abbrev pub upper_price : AreaKind → ℕ
upper_price = price 2 2 1 1 2 0 1 1 0

-- the free cells of the lower row
abbrev pub lower_price : AreaKind → ℕ
lower_price = price 2 1 2 1 0 2 1 0 1

-- an area of each kind
abbrev pub area_of : AreaKind → Area
area_of E = record { low = Both; high = Both }
area_of U1 = record { low = Both; high = Upper }
area_of L1 = record { low = Both; high = Lower }
area_of C = record { low = Both; high = Neither }
area_of U0 = record { low = Upper; high = Upper }
area_of L0 = record { low = Lower; high = Lower }
area_of UpperLower = record { low = Upper; high = Lower }
area_of UpperNone = record { low = Upper; high = Neither }
area_of LowerNone = record { low = Lower; high = Neither }
area_of Full = record { low = Neither; high = Neither }

-- the kind of an area once a piece of width Two has taken its cells, where it fits
abbrev pub after_wide : Kind → AreaKind → Option AreaKind
after_wide k kind =
    if fits_area (area_of kind) k All then Some (kind_of (cleared (area_of kind) k All)) else None
