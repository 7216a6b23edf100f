use Rattle.std.proofs.Common.{arith}
use Rattle.puzzle_solver.specs.declared.board_counts.PieceCounts.{PieceCounts}
use Rattle.least_spill.specs.Most.{beside}
use Rattle.least_spill.proofs.Choices.{below-min, min-below}
use Rattle.least_spill.proofs.most.room_for_y.Goals as goal

pub returns : goal.returns
returns c =
    let wide : PieceCounts = beside c.args.x 0 c.args.z in
    let upper = c.upper_cells.ensures wide in
    let lower = c.lower_cells.ensures wide in
    λ y. (
      λ b.
          below-min y _ _ _ c.min-4.ensures
          (below-min y _ _ _ c.min-3.ensures
          (below-min y _ _ _ c.min-2.ensures
          (below-min y _ _ _ c.min-with_x.ensures
          (below-min y _ _ _ c.min.ensures (omega (arith, b.y)) (omega (arith, b.y_wide_x)))
          (omega (arith, b.y_both_x)))
          (below-min y _ _ _ c.min-with_z.ensures (omega (arith, b.y_wide_z)) (omega (arith, b.y_both_z))))
          (omega (arith, b.y_wide)))
          (below-min y _ _ _ c.min-cells.ensures (omega (arith, b.upper, upper)) (omega (arith, b.lower, lower))),
      λ few.
          let all = min-below y _ _ _ c.min-4.ensures few in
          let cells = min-below y _ _ _ c.min-cells.ensures all.1 in
          let both = min-below y _ _ _ c.min-3.ensures all.0 in
          let each = min-below y _ _ _ c.min-2.ensures both.0 in
          let with_x = min-below y _ _ _ c.min-with_x.ensures each.0 in
          let with_z = min-below y _ _ _ c.min-with_z.ensures each.1 in
          let first = min-below y _ _ _ c.min.ensures with_x.0 in
          record {
            wide_y = c.requires.wide_y;
            wide_yx = c.requires.wide_yx;
            wide_yz = c.requires.wide_yz;
            y = omega (arith, first.0);
            y_wide_x = omega (arith, first.1, c.requires.y_wide_x);
            y_wide_z = omega (arith, with_z.0, c.requires.y_wide_z);
            y_wide = omega (arith, both.1, c.requires.y_wide);
            y_both_x = omega (arith, with_x.1, c.requires.y_both_x);
            y_both_z = omega (arith, with_z.1, c.requires.y_both_z);
            upper = omega (arith, cells.0, upper, c.requires.upper);
            lower = omega (arith, cells.1, lower, c.requires.lower);
          },
    )
