use Rattle.std.proofs.Common.{◌≡◌, take}
use Rattle.lower_builder.specs.Graphs.{and_arrays}
use Rattle.lower_builder.proofs.graph.add_arrays.Given as goal

abbrev pub invariant-loop-width : goal.invariant-loop-width
invariant-loop-width l = l.graph ≡ and_arrays l.initial.graph (take l.width-index l.arrays)
