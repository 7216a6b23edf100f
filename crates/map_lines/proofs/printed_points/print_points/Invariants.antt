use Rattle.std.proofs.Common.{◌≡◌, ◌++◌, drop}
use Rattle.std.specs.List.{flat_map}
use Rattle.std.specs.Prelude.{slice_index}
use Rattle.map_text.specs.Words.{line_text, point_lines}
use Rattle.map_lines.specs.MapOf.{block_over}
use Rattle.map_lines.specs.Printing.{graph_of, home_of}
use Rattle.map_lines.proofs.printed_points.print_points.Given as goal

-- the text so far and that of the other points are that of all
abbrev pub invariant-loop-point : goal.invariant-loop-point
invariant-loop-point l =
    l.out.items ++ flat_map line_text (flat_map point_lines (block_over (graph_of l.home) (home_of l.home)
    (λ p. slice_index l.addresses p) (drop l.point-index l.points)))
    ≡ l.initial.out.items ++ flat_map line_text (flat_map point_lines (block_over (graph_of l.home) (home_of l.home)
    (λ p. slice_index l.addresses p) l.points))
