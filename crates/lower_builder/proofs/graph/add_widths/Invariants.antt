use Rattle.std.proofs.Common.{◌≡◌, take}
use Rattle.lower_builder.specs.Graphs.{and_widths}
use Rattle.lower_builder.proofs.graph.add_widths.Given as goal

abbrev pub invariant-loop-width : goal.invariant-loop-width
invariant-loop-width l = l.graph ≡ and_widths l.initial.graph (take l.width-index l.widths)
