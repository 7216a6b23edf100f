-- The counts of a board that keep the bounds, and what they are with one piece more in its place.
use Rattle.std.specs.Prelude.{ℕ, ◌≡◌, ◌+◌, ◌*◌, ◌&&◌, cond, IsTrue}
use Rattle.pcc_base.specs.declared.run.Width.{Width}
use Rattle.pcc_base.specs.declared.run.Width.TheVariants.{One, Two}
use Rattle.puzzle_board.specs.declared.area.Area.{Area}
use Rattle.puzzle_board.specs.declared.area.AreaKind.{AreaKind}
use Rattle.puzzle_board.specs.declared.area.AreaKind.TheVariants.{E, U1, L1, C, U0, L0, UpperLower, UpperNone}
use Rattle.puzzle_board.specs.declared.area.AreaKind.TheVariants.{LowerNone}
use Rattle.puzzle_board.specs.declared.piece.Columns.{Columns}
use Rattle.puzzle_board.specs.declared.piece.Kind.{Kind}
use Rattle.puzzle_board.specs.declared.piece.Kind.TheVariants.{X, Y, Z}
use Rattle.puzzle_board.specs.declared.piece.Piece.{Piece}
use Rattle.puzzle_board.specs.Areas.{cleared, fits_area, is_of_width, kind_of}
use Rattle.puzzle_board.specs.Boards.{Puzzle, same_letter, same_width}
use Rattle.puzzle_board.specs.Bounds.{IsBounded}
use Rattle.puzzle_solver.specs.declared.board_counts.AreaCounts.{AreaCounts}
use Rattle.puzzle_solver.specs.declared.board_counts.PieceCounts.{PieceCounts}
use Rattle.puzzle_solver.specs.declared.near_counts.BoardCounts.{BoardCounts}
use Rattle.puzzle_solver.specs.Counting.{AreasAre, PiecesAre}
use Rattle.puzzle_solver.specs.Filling.{one}
use Rattle.puzzle_solver.specs.Plans.{numbers}

-- these are the counts of the board, and they keep the bounds
pub record IsCounted (board : Puzzle) (n : BoardCounts) : Type 0 where
  pub areas : AreasAre board n.areas
  pub pieces : PiecesAre board n.pieces
  pub bounded : IsBounded (numbers n.areas n.pieces)

-- in the new counts an area is of another kind; areas without a free cell aren't counted
pub record IsChangedKind (from left : AreaKind) (old new : AreaCounts) : Type 0 where
  pub e : new.e + one E from ≡ old.e + one E left
  pub u1 : new.u1 + one U1 from ≡ old.u1 + one U1 left
  pub l1 : new.l1 + one L1 from ≡ old.l1 + one L1 left
  pub c : new.c + one C from ≡ old.c + one C left
  pub u0 : new.u0 + one U0 from ≡ old.u0 + one U0 left
  pub l0 : new.l0 + one L0 from ≡ old.l0 + one L0 left
  pub upper_lower : new.upper_lower + one UpperLower from ≡ old.upper_lower + one UpperLower left
  pub upper_none : new.upper_none + one UpperNone from ≡ old.upper_none + one UpperNone left
  pub lower_none : new.lower_none + one LowerNone from ≡ old.lower_none + one LowerNone left

-- 1 where a piece of a kind and a width is one of these, else 0
abbrev pub one_piece : Kind → Width → Kind → Width → ℕ
one_piece kind width k w = cond (same_letter kind k && same_width width w) 1 0

-- in the new counts one piece of this kind and width less is unplaced
pub record IsOneLess (kind : Kind) (width : Width) (old new : PieceCounts) : Type 0 where
  pub x1 : new.x1 + one_piece kind width X One ≡ old.x1
  pub x2 : new.x2 + one_piece kind width X Two ≡ old.x2
  pub y1 : new.y1 + one_piece kind width Y One ≡ old.y1
  pub y2 : new.y2 + one_piece kind width Y Two ≡ old.y2
  pub z1 : new.z1 + one_piece kind width Z One ≡ old.z1
  pub z2 : new.z2 + one_piece kind width Z Two ≡ old.z2

-- the piece fits in these columns of an area of which this is free, and the new counts are those with it there, which
-- keep the bounds
pub record FitsWithRest (old new : BoardCounts) (p : Piece) (free : Area) (columns : Columns) : Type 0 where
  pub wide : IsTrue (is_of_width p.width columns)
  pub fits : IsTrue (fits_area free p.kind columns)
  pub areas : IsChangedKind (kind_of free) (kind_of (cleared free p.kind columns)) old.areas new.areas
  pub pieces : IsOneLess p.kind p.width old.pieces new.pieces
  pub bounded : IsBounded (numbers new.areas new.pieces)

-- the steps that are left for placing the unplaced pieces: five for one of width One, six for one of width Two
abbrev pub steps_for : PieceCounts → ℕ
steps_for p = 5 * (p.x1 + p.y1 + p.z1) + 6 * (p.y2 + p.x2 + p.z2)
