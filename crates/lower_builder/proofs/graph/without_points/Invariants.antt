use Rattle.std.proofs.Common.{◌≡◌, []}
use Rattle.lower_lines.specs.Lines.{graph_of_lines}
use Rattle.lower_builder.proofs.graph.without_points.Given as goal

abbrev pub invariant-loop-block : goal.invariant-loop-block
invariant-loop-block l = l.graph ≡ graph_of_lines l.widths l.arrays l._block []
