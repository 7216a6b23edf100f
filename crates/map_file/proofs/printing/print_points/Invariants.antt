use Rattle.std.proofs.Common.{◌≡◌, ◌++◌, drop, map}
use Rattle.std.specs.List.{flat_map}
use Rattle.map_text.specs.Words.{line_text, point_lines}
use Rattle.map_file.specs.Views.{point_of}
use Rattle.map_file.proofs.printing.print_points.Given as goal

-- the text so far and that of the other points are that of all
abbrev pub invariant-loop-point : goal.invariant-loop-point
invariant-loop-point l =
    l.out.items ++ flat_map line_text (flat_map point_lines (map point_of (drop l.point-index l.points)))
    ≡ l.initial.out.items ++ flat_map line_text (flat_map point_lines (map point_of l.points))
