use Rattle.std.proofs.Common.{◌≡◌, map, length, take}
use Rattle.lower_lines.specs.Lines.{graph_of_lines, open_after}
use Rattle.lower_builder.specs.Built.{line_of}
use Rattle.lower_builder.proofs.graph.graph_of.Given as goal

abbrev pub invariant-loop-line : goal.invariant-loop-line
invariant-loop-line l = record {
  graph : l.graph ≡ graph_of_lines l.widths l.arrays l.blocks (map line_of (take (length l.yielded) l.fn.lines.items));
  last : l.last ≡ open_after 0 (map line_of (take (length l.yielded) l.fn.lines.items));
}
