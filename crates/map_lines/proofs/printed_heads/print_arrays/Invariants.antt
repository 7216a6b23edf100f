use Rattle.std.proofs.Common.{◌≡◌, ◌≤◌, ◌+◌, ◌++◌, drop, map, take}
use Rattle.std.specs.List.{flat_map}
use Rattle.c_tree.specs.Erased.{array_of}
use Rattle.allocator.specs.PointMaps.{bytes_of_arrays}
use Rattle.ia32_placements.specs.Placed.{arrays_in}
use Rattle.map_text.specs.Words.{array_lines, line_text, numbered}
use Rattle.map_lines.specs.Parts.{arrays_at}
use Rattle.map_lines.specs.Printing.{graph_of}
use Rattle.map_lines.proofs.HeadTexts.{pairs_of}
use Rattle.map_lines.proofs.printed_heads.print_arrays.Given as goal

-- the text so far and that of the other arrays are that of all, and the next array's header is where these begin
abbrev pub invariant-loop-number : goal.invariant-loop-number
invariant-loop-number l = record {
  lines : l.out.items ++ flat_map line_text (numbered array_lines l.number
      (arrays_at (map array_of (drop l.number l.arrays)) (drop l.number (arrays_in (graph_of l.home) l.home.places))))
      ≡ l.initial.out.items ++ flat_map line_text (numbered array_lines 0
      (arrays_at (map array_of l.arrays) (arrays_in (graph_of l.home) l.home.places)));
  header : l.header + bytes_of_arrays (pairs_of (take l.number l.arrays)) ≡ l.home.places.frame;
  room : bytes_of_arrays (pairs_of (drop l.number l.arrays)) ≤ l.header;
}
