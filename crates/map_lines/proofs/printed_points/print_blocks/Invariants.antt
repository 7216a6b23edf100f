use Rattle.std.proofs.Common.{◌≡◌, ◌++◌, drop, map}
use Rattle.std.specs.List.{flat_map}
use Rattle.std.specs.Prelude.{slice_index}
use Rattle.map_text.specs.Words.{block_lines, line_text, numbered}
use Rattle.map_lines.specs.MapOf.{block_over}
use Rattle.map_lines.specs.Printing.{graph_of, home_of}
use Rattle.map_lines.proofs.printed_points.print_blocks.Given as goal

-- the text so far and that of the other blocks are that of all
abbrev pub invariant-loop-block : goal.invariant-loop-block
invariant-loop-block l =
    l.out.items ++ flat_map line_text (numbered block_lines l.block (map (block_over (graph_of l.home) (home_of l.home)
    (λ p. slice_index l.addresses p)) (drop l.block (graph_of l.home).blocks)))
    ≡ l.initial.out.items ++ flat_map line_text (numbered block_lines 0 (map (block_over (graph_of l.home)
    (home_of l.home) (λ p. slice_index l.addresses p)) (graph_of l.home).blocks))
