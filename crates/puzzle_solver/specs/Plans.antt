-- Counts, and how many pieces of width Two go where.
use Rattle.std.specs.Prelude.{◌≡◌, ◌+◌, ◌*◌, ◌≤◌}
use Rattle.puzzle_board.specs.Bounds.{Counts, both_of}
use Rattle.puzzle_solver.specs.declared.board_counts.AreaCounts.{AreaCounts}
use Rattle.puzzle_solver.specs.declared.board_counts.PieceCounts.{PieceCounts}
use Rattle.puzzle_solver.specs.declared.wide_shares.Plan.{Plan}

-- the two halves of the counts
abbrev pub numbers : AreaCounts → PieceCounts → Counts
numbers a p = record {
  e = a.e;
  u1 = a.u1;
  l1 = a.l1;
  c = a.c;
  u0 = a.u0;
  l0 = a.l0;
  upper_lower = a.upper_lower;
  upper_none = a.upper_none;
  lower_none = a.lower_none;
  x1 = p.x1;
  x2 = p.x2;
  y1 = p.y1;
  y2 = p.y2;
  z1 = p.z1;
  z2 = p.z2;
}

-- A plan has room for each piece of width Two, and leaves as many columns with both rows free as the Y of width One
-- need. An X that shares an area takes its upper row, so that a Z finds the lower one free.
pub record IsPlan (n : Counts) (plan : Plan) : Type 0 where
  pub own_x : plan.own_x ≤ n.u0
  pub own_z : plan.own_z ≤ n.l0
  pub shared : n.y2 + plan.shared_x + plan.alone_z ≤ n.e
  pub below : plan.shared_z ≤ plan.shared_x
  pub rest_x : plan.rest_x ≤ n.u1
  pub rest_z : plan.rest_z ≤ n.l1
  pub every_x : plan.own_x + plan.shared_x + plan.rest_x ≡ n.x2
  pub every_z : plan.own_z + plan.shared_z + plan.alone_z + plan.rest_z ≡ n.z2
  pub columns :
      n.y1 + 2 * n.y2 + 2 * plan.shared_x + 2 * plan.alone_z + plan.rest_x + plan.rest_z ≤ both_of n
