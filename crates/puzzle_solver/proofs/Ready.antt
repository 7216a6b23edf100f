-- By a plan the pieces of width Two are placed, and there is room left for the narrow ones.
use Rattle.std.proofs.Common.{arith}
use Rattle.puzzle_board.specs.declared.area.AreaKind.TheVariants.{E, U1, L1, U0, L0}
use Rattle.puzzle_board.specs.declared.piece.Kind.TheVariants.{X, Y, Z}
use Rattle.puzzle_board.specs.Boards.{Puzzle}
use Rattle.puzzle_board.specs.Bounds.{IsBounded}
use Rattle.puzzle_solver.specs.declared.board_counts.AreaCounts.{AreaCounts}
use Rattle.puzzle_solver.specs.declared.board_counts.PieceCounts.{PieceCounts}
use Rattle.puzzle_solver.specs.declared.wide_shares.Plan.{Plan}
use Rattle.puzzle_solver.specs.Plans.{IsPlan, numbers}
use Rattle.puzzle_solver.specs.Counting.{AreasAre, IsReady, PiecesAre}
use Rattle.puzzle_solver.specs.Filling.{Filled, left_by}
use Rattle.puzzle_solver.proofs.Worths.{both-worth, lower-worth, upper-worth}

pub ready :
    (b0 b1 b2 b3 b4 b5 b6 b7 b8 : Puzzle) (a : AreaCounts) (p : PieceCounts) (plan : Plan) → AreasAre b0 a
    → PiecesAre b0 p → IsBounded (numbers a p) → IsPlan (numbers a p) plan
    → Filled Y E (left_by Y E) p.y2 b0 b1 → Filled X U0 (left_by X U0) plan.own_x b1 b2
    → Filled Z L0 (left_by Z L0) plan.own_z b2 b3 → Filled X E (left_by X E) plan.shared_x b3 b4
    → Filled Z L0 (left_by Z L0) plan.shared_z b4 b5 → Filled Z E (left_by Z E) plan.alone_z b5 b6
    → Filled X U1 (left_by X U1) plan.rest_x b6 b7 → Filled Z L1 (left_by Z L1) plan.rest_z b7 b8
    → IsReady b8 p.x1 p.y1 p.z1
ready b0 b1 b2 b3 b4 b5 b6 b7 b8 a p plan areas pieces bounded planned f1 f2 f3 f4 f5 f6 f7 f8 =
    let both = both-worth b0 a p areas in
    let upper = upper-worth b0 a p areas in
    let lower = lower-worth b0 a p areas in
    record {
      x1 = omega arith;
      y1 = omega arith;
      z1 = omega arith;
      x2 = omega arith;
      y2 = omega arith;
      z2 = omega arith;
      columns = omega arith;
      upper = omega arith;
      lower = omega arith;
    }
