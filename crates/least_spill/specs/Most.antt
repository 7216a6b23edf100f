-- How many pieces of each kind and width can stay on a board at most, in numbers.
use Rattle.std.specs.Prelude.{ℕ, ◌≡◌, ◌+◌, ◌≤◌, ◌<◌, ◌⊎◌}
use Rattle.puzzle_board.specs.Bounds.{IsBounded}
use Rattle.puzzle_solver.specs.declared.board_counts.AreaCounts.{AreaCounts}
use Rattle.puzzle_solver.specs.declared.board_counts.PieceCounts.{PieceCounts}
use Rattle.puzzle_solver.specs.Plans.{numbers}

-- how many pieces these are
abbrev pub total : PieceCounts → ℕ
total p = p.x1 + p.x2 + p.y1 + p.y2 + p.z1 + p.z2

-- of each kind and width there are no more than of these pieces
pub record IsPart (kept pieces : PieceCounts) : Type 0 where
  pub x1 : kept.x1 ≤ pieces.x1
  pub x2 : kept.x2 ≤ pieces.x2
  pub y1 : kept.y1 ≤ pieces.y1
  pub y2 : kept.y2 ≤ pieces.y2
  pub z1 : kept.z1 ≤ pieces.z1
  pub z2 : kept.z2 ≤ pieces.z2

-- of these pieces so many can stay: they keep the bounds of the areas
pub record CanStay (areas : AreaCounts) (pieces kept : PieceCounts) : Type 0 where
  pub part : IsPart kept pieces
  pub bounded : IsBounded (numbers areas kept)

-- and no more can
pub record IsMost (areas : AreaCounts) (pieces kept : PieceCounts) : Type 0 where
  pub stay : CanStay areas pieces kept
  pub most : (other : PieceCounts) → CanStay areas pieces other → total other ≤ total kept

-- so many pieces of width Two, none of them Y
pub record HasWide (x z : ℕ) (kept : PieceCounts) : Type 0 where
  pub x2 : kept.x2 ≡ x
  pub y2 : kept.y2 ≡ 0
  pub z2 : kept.z2 ≡ z

-- so many X and Z of width Two beside so many Y of width One, and nothing else
abbrev pub beside : ℕ → ℕ → ℕ → PieceCounts
beside x y z = record { x1 = 0; x2 = x; y1 = y; y2 = 0; z1 = 0; z2 = z }

-- the most that can stay with so many X and Z of width Two and no such Y
pub record IsMostWith (areas : AreaCounts) (pieces : PieceCounts) (x z : ℕ) (kept : PieceCounts) : Type 0 where
  pub stay : CanStay areas pieces kept
  pub wide : HasWide x z kept
  pub most : (other : PieceCounts) → CanStay areas pieces other → HasWide x z other → total other ≤ total kept

-- the most that can stay without Y of width Two, among those with fewer than so many such X, or with as many and fewer
-- such Z
pub record IsMostBefore (areas : AreaCounts) (pieces : PieceCounts) (x z : ℕ) (kept : PieceCounts) : Type 0 where
  pub stay : CanStay areas pieces kept
  pub most :
      (other : PieceCounts) → CanStay areas pieces other → other.y2 ≡ 0
      → (other.x2 < x) ⊎ ((other.x2 ≡ x) × (other.z2 < z)) → total other ≤ total kept
