use Rattle.std.proofs.Common.{drop}
use Rattle.flow_graph.specs.Graphs.{points_of}
use Rattle.ia32_select.proofs.Tables.{FillsSome}
use Rattle.ia32_select.proofs.table_of_moves.fill_block.Given as goal

-- the points so far are done
abbrev pub invariant-loop-point : goal.invariant-loop-point
invariant-loop-point l =
    FillsSome l.graph l.map l.block (drop l.point-index (points_of l.graph l.block)) l.initial.table l.table
