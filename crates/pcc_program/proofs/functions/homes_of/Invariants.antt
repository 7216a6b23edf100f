-- The graphs so far have their homes.
use Rattle.std.proofs.Common.{◌≡◌, map, take}
use Rattle.std.specs.List.{All}
use Rattle.map_lines.specs.Printing.{graph_of}
use Rattle.pcc_program.specs.Passes.{IsAllocated}
use Rattle.pcc_program.proofs.functions.homes_of.Given as goal

abbrev pub invariant-loop-graph : goal.invariant-loop-graph
invariant-loop-graph l = (map graph_of l.homes.items ≡ take l.graph-index l.graphs) × All IsAllocated l.homes.items
