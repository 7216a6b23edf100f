use Rattle.std.proofs.Common.{◌≡◌, ◌++◌, drop}
use Rattle.flow_graph.specs.Graphs.{points_of}
use Rattle.ia32_rows.specs.Rows.{point_rows}
use Rattle.ia32_select.specs.Sites.{flow_of, placement_of}
use Rattle.ia32_select.proofs.blocks.emit_block.Given as goal

abbrev pub invariant-loop-place : goal.invariant-loop-place
invariant-loop-place l =
    l.out.items ++ point_rows (flow_of l.site) (placement_of l.site)
    (drop l.place (points_of (flow_of l.site) l.block))
    ≡ l.initial.out.items ++ point_rows (flow_of l.site) (placement_of l.site) (points_of (flow_of l.site) l.block)
