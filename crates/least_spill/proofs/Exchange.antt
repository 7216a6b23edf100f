-- What keeps the bounds beside pieces that do.
use Rattle.std.proofs.Common.{◌≤◌, arith}
use Rattle.puzzle_board.specs.Bounds.{IsBounded}
use Rattle.puzzle_solver.specs.declared.board_counts.AreaCounts.{AreaCounts}
use Rattle.puzzle_solver.specs.declared.board_counts.PieceCounts.{PieceCounts}
use Rattle.puzzle_solver.specs.Plans.{numbers}
use Rattle.least_spill.specs.Most.{total}

-- a removed piece can stand where a Y of width Two stood: no more pieces in all, of which fewer are such Y, and no fewer
-- of any other kind
pub exchanged :
    (a : AreaCounts) (k m : PieceCounts) → IsBounded (numbers a k) → k.x1 ≤ m.x1 → k.x2 ≤ m.x2 → k.y1 ≤ m.y1
    → k.z1 ≤ m.z1 → k.z2 ≤ m.z2 → total m ≤ total k → IsBounded (numbers a m)
exchanged a k m b x1 x2 y1 z1 z2 few = record {
  wide_y = omega (arith, b.wide_y);
  wide_yx = omega (arith, b.wide_yx);
  wide_yz = omega (arith, b.wide_yz);
  y = omega (arith, b.y);
  y_wide_x = omega (arith, b.y_wide_x);
  y_wide_z = omega (arith, b.y_wide_z);
  y_wide = omega (arith, b.y_wide);
  y_both_x = omega (arith, b.y_both_x);
  y_both_z = omega (arith, b.y_both_z);
  upper = omega (arith, b.upper);
  lower = omega (arith, b.lower);
}

-- no more of any kind
pub fewer-bounded :
    (a : AreaCounts) (k m : PieceCounts) → IsBounded (numbers a k) → m.x1 ≤ k.x1 → m.x2 ≤ k.x2 → m.y1 ≤ k.y1
    → m.y2 ≤ k.y2 → m.z1 ≤ k.z1 → m.z2 ≤ k.z2 → IsBounded (numbers a m)
fewer-bounded a k m b x1 x2 y1 y2 z1 z2 = record {
  wide_y = omega (arith, b.wide_y);
  wide_yx = omega (arith, b.wide_yx);
  wide_yz = omega (arith, b.wide_yz);
  y = omega (arith, b.y);
  y_wide_x = omega (arith, b.y_wide_x);
  y_wide_z = omega (arith, b.y_wide_z);
  y_wide = omega (arith, b.y_wide);
  y_both_x = omega (arith, b.y_both_x);
  y_both_z = omega (arith, b.y_both_z);
  upper = omega (arith, b.upper);
  lower = omega (arith, b.lower);
}
