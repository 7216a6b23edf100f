-- Bounds on the areas and the pieces of a puzzle, counted by kind. That a puzzle is solvable exactly where they hold is
-- ours: they are the prices of cells at which no legal placement is worth more than its board.
use Rattle.std.specs.Prelude.{ℕ, ◌+◌, ◌*◌, ◌≤◌, List}
use Rattle.pcc_base.specs.declared.run.Width.TheVariants.{One, Two}
use Rattle.puzzle_board.specs.declared.area.Area.{Area}
use Rattle.puzzle_board.specs.declared.area.AreaKind.TheVariants.{E, U1, L1, C, U0, L0, UpperLower, UpperNone}
use Rattle.puzzle_board.specs.declared.area.AreaKind.TheVariants.{LowerNone}
use Rattle.puzzle_board.specs.declared.piece.Kind.TheVariants.{X, Y, Z}
use Rattle.puzzle_board.specs.declared.piece.Piece.{Piece}
use Rattle.puzzle_board.specs.Placements.{IsSolvable}
use Rattle.puzzle_board.specs.Boards.{areas_of_kind, pieces_of}

-- the areas and the pieces of a puzzle by kind
pub record Counts : Type 0 where
  pub e : ℕ
  pub u1 : ℕ
  pub l1 : ℕ
  pub c : ℕ
  pub u0 : ℕ
  pub l0 : ℕ
  pub upper_lower : ℕ
  pub upper_none : ℕ
  pub lower_none : ℕ
  pub x1 : ℕ
  pub x2 : ℕ
  pub y1 : ℕ
  pub y2 : ℕ
  pub z1 : ℕ
  pub z2 : ℕ

abbrev pub counts_of : List Area → List Piece → Counts
counts_of areas pieces = record {
  e = areas_of_kind areas E;
  u1 = areas_of_kind areas U1;
  l1 = areas_of_kind areas L1;
  c = areas_of_kind areas C;
  u0 = areas_of_kind areas U0;
  l0 = areas_of_kind areas L0;
  upper_lower = areas_of_kind areas UpperLower;
  upper_none = areas_of_kind areas UpperNone;
  lower_none = areas_of_kind areas LowerNone;
  x1 = pieces_of pieces X One;
  x2 = pieces_of pieces X Two;
  y1 = pieces_of pieces Y One;
  y2 = pieces_of pieces Y Two;
  z1 = pieces_of pieces Z One;
  z2 = pieces_of pieces Z Two;
}

-- the columns with both rows free
abbrev pub both_of : Counts → ℕ
both_of n = 2 * n.e + n.u1 + n.l1 + n.c

-- the free cells of the upper row
abbrev pub upper_of : Counts → ℕ
upper_of n = 2 * n.e + 2 * n.u1 + n.l1 + n.c + 2 * n.u0 + n.upper_lower + n.upper_none

-- the free cells of the lower row
abbrev pub lower_of : Counts → ℕ
lower_of n = 2 * n.e + n.u1 + 2 * n.l1 + n.c + 2 * n.l0 + n.upper_lower + n.lower_none

pub record IsBounded (n : Counts) : Type 0 where
  pub wide_y : n.y2 ≤ n.e
  pub wide_yx : n.y2 + n.x2 ≤ n.e + n.u1 + n.u0
  pub wide_yz : n.y2 + n.z2 ≤ n.e + n.l1 + n.l0
  pub y : n.y1 + 2 * n.y2 ≤ both_of n
  pub y_wide_x : n.y1 + 2 * n.y2 + n.x2 ≤ both_of n + n.u0
  pub y_wide_z : n.y1 + 2 * n.y2 + n.z2 ≤ both_of n + n.l0
  pub y_wide : n.y1 + 2 * n.y2 + n.x2 + n.z2 ≤ both_of n + n.u0 + n.l0
  pub y_both_x : n.y1 + 2 * n.y2 + 2 * n.x2 ≤ both_of n + n.u1 + 2 * n.u0
  pub y_both_z : n.y1 + 2 * n.y2 + 2 * n.z2 ≤ both_of n + n.l1 + 2 * n.l0
  pub upper : n.y1 + n.x1 + 2 * n.y2 + 2 * n.x2 ≤ upper_of n
  pub lower : n.y1 + n.z1 + 2 * n.y2 + 2 * n.z2 ≤ lower_of n

-- a puzzle that has a legal placement keeps the bounds
abbrev pub SolvableIsBounded : Type 0
SolvableIsBounded = (areas : List Area) (pieces : List Piece) → IsSolvable areas pieces
    → IsBounded (counts_of areas pieces)
