-- The counts of a board, and what is left when the pieces of width Two are placed.
use Rattle.std.specs.Prelude.{ℕ, ◌≡◌, ◌+◌, ◌*◌, ◌≤◌}
use Rattle.pcc_base.specs.declared.run.Width.TheVariants.{One, Two}
use Rattle.puzzle_board.specs.declared.area.AreaKind.TheVariants.{E, U1, L1, C, U0, L0, UpperLower, UpperNone}
use Rattle.puzzle_board.specs.declared.area.AreaKind.TheVariants.{LowerNone}
use Rattle.puzzle_board.specs.declared.piece.Kind.TheVariants.{X, Y, Z}
use Rattle.puzzle_board.specs.Boards.{Puzzle, area_count, free_areas, piece_count, unplaced}
use Rattle.puzzle_board.specs.Bounds.{Counts, both_of, counts_of, lower_of, upper_of}
use Rattle.puzzle_board.specs.Worth.{both_price, lower_price, upper_price, worth}
use Rattle.puzzle_solver.specs.declared.board_counts.AreaCounts.{AreaCounts}
use Rattle.puzzle_solver.specs.declared.board_counts.PieceCounts.{PieceCounts}

-- the counts of the areas and of the unplaced pieces
abbrev pub board_counts : Puzzle → Counts
board_counts board = counts_of (free_areas board) (unplaced board)

-- these are the counts of the board's areas
pub record AreasAre (board : Puzzle) (a : AreaCounts) : Type 0 where
  pub e : a.e ≡ area_count board E
  pub u1 : a.u1 ≡ area_count board U1
  pub l1 : a.l1 ≡ area_count board L1
  pub c : a.c ≡ area_count board C
  pub u0 : a.u0 ≡ area_count board U0
  pub l0 : a.l0 ≡ area_count board L0
  pub upper_lower : a.upper_lower ≡ area_count board UpperLower
  pub upper_none : a.upper_none ≡ area_count board UpperNone
  pub lower_none : a.lower_none ≡ area_count board LowerNone

-- these are the counts of the board's unplaced pieces
pub record PiecesAre (board : Puzzle) (p : PieceCounts) : Type 0 where
  pub x1 : p.x1 ≡ piece_count board X One
  pub x2 : p.x2 ≡ piece_count board X Two
  pub y1 : p.y1 ≡ piece_count board Y One
  pub y2 : p.y2 ≡ piece_count board Y Two
  pub z1 : p.z1 ≡ piece_count board Z One
  pub z2 : p.z2 ≡ piece_count board Z Two

-- the bounds in three parts: areas for the wide pieces, columns for the Y, and cells of each row
abbrev pub KeepsWide : Counts → Type 0
KeepsWide n = (n.y2 ≤ n.e) × (n.y2 + n.x2 ≤ n.e + n.u1 + n.u0) × (n.y2 + n.z2 ≤ n.e + n.l1 + n.l0)

abbrev pub KeepsColumns : Counts → Type 0
KeepsColumns n =
    (n.y1 + 2 * n.y2 ≤ both_of n) × (n.y1 + 2 * n.y2 + n.x2 ≤ both_of n + n.u0)
    × (n.y1 + 2 * n.y2 + n.z2 ≤ both_of n + n.l0) × (n.y1 + 2 * n.y2 + n.x2 + n.z2 ≤ both_of n + n.u0 + n.l0)
    × (n.y1 + 2 * n.y2 + 2 * n.x2 ≤ both_of n + n.u1 + 2 * n.u0)
    × (n.y1 + 2 * n.y2 + 2 * n.z2 ≤ both_of n + n.l1 + 2 * n.l0)

abbrev pub KeepsCells : Counts → Type 0
KeepsCells n =
    (n.y1 + n.x1 + 2 * n.y2 + 2 * n.x2 ≤ upper_of n) × (n.y1 + n.z1 + 2 * n.y2 + 2 * n.z2 ≤ lower_of n)

-- the wide pieces are placed, these are the narrow ones that aren't, and there are columns and cells for them
pub record IsReady (board : Puzzle) (x y z : ℕ) : Type 0 where
  pub x1 : piece_count board X One ≡ x
  pub y1 : piece_count board Y One ≡ y
  pub z1 : piece_count board Z One ≡ z
  pub x2 : piece_count board X Two ≡ 0
  pub y2 : piece_count board Y Two ≡ 0
  pub z2 : piece_count board Z Two ≡ 0
  pub columns : y ≤ worth both_price (free_areas board)
  pub upper : y + x ≤ worth upper_price (free_areas board)
  pub lower : y + z ≤ worth lower_price (free_areas board)
