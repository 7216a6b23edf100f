-- Pieces of width Two in areas of a kind.
use Rattle.std.specs.Prelude.{ℕ, ◌≡◌, ◌+◌, ◌*◌, ◌&&◌, cond, unwrap_or}
use Rattle.pcc_base.specs.declared.run.Width.{Width}
use Rattle.pcc_base.specs.declared.run.Width.TheVariants.{One, Two}
use Rattle.puzzle_board.specs.declared.area.AreaKind.{AreaKind}
use Rattle.puzzle_board.specs.declared.area.AreaKind.TheVariants.{E, U1, L1, U0, L0, Full}
use Rattle.puzzle_board.specs.declared.piece.Kind.{Kind}
use Rattle.puzzle_board.specs.declared.piece.Kind.TheVariants.{X, Y, Z}
use Rattle.puzzle_board.specs.Areas.{same_kind}
use Rattle.puzzle_board.specs.Boards.{Puzzle, area_count, free_areas, piece_count, same_letter, same_width}
use Rattle.puzzle_board.specs.Worth.{after_wide, both_price, lower_price, upper_price, worth}
use Rattle.puzzle_solver.specs.Onward.{IsOnward}

-- the kind of area that a piece of width Two leaves
abbrev pub left_by : Kind → AreaKind → AreaKind
left_by kind from = unwrap_or (after_wide kind from) Full

-- 1 for areas of this kind, and 0 for others
abbrev pub one : AreaKind → AreaKind → ℕ
one kind k = cond (same_kind k kind) 1 0

-- so many pieces of a kind and of width Two have taken areas of a kind, and leave areas of another
pub record IsFilled (kind : Kind) (from left : AreaKind) (n : ℕ) (old new : Puzzle) : Type 0 where
  pub onward : IsOnward old new
  pub worths :
      (prices : AreaKind → ℕ)
      → worth prices (free_areas new) + n * prices from ≡ worth prices (free_areas old) + n * prices left
  pub counts :
      (k : Kind) (w : Width)
      → piece_count new k w + cond (same_letter kind k && same_width Two w) n 0 ≡ piece_count old k w

-- the same in the numbers that a filling depends on
pub record Filled (kind : Kind) (from left : AreaKind) (n : ℕ) (old new : Puzzle) : Type 0 where
  pub onward : IsOnward old new
  pub e : area_count new E + n * one E from ≡ area_count old E + n * one E left
  pub u1 : area_count new U1 + n * one U1 from ≡ area_count old U1 + n * one U1 left
  pub l1 : area_count new L1 + n * one L1 from ≡ area_count old L1 + n * one L1 left
  pub u0 : area_count new U0 + n * one U0 from ≡ area_count old U0 + n * one U0 left
  pub l0 : area_count new L0 + n * one L0 from ≡ area_count old L0 + n * one L0 left
  pub both :
      worth both_price (free_areas new) + n * both_price from ≡ worth both_price (free_areas old) + n * both_price left
  pub upper :
      worth upper_price (free_areas new) + n * upper_price from
      ≡ worth upper_price (free_areas old) + n * upper_price left
  pub lower :
      worth lower_price (free_areas new) + n * lower_price from
      ≡ worth lower_price (free_areas old) + n * lower_price left
  pub x1 : piece_count new X One ≡ piece_count old X One
  pub y1 : piece_count new Y One ≡ piece_count old Y One
  pub z1 : piece_count new Z One ≡ piece_count old Z One
  pub x2 : piece_count new X Two + cond (same_letter kind X) n 0 ≡ piece_count old X Two
  pub y2 : piece_count new Y Two + cond (same_letter kind Y) n 0 ≡ piece_count old Y Two
  pub z2 : piece_count new Z Two + cond (same_letter kind Z) n 0 ≡ piece_count old Z Two
