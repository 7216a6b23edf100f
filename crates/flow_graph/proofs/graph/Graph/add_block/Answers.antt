use Rattle.std.proofs.Common.{◌<◌, length, sym, subst}
use Rattle.flow_graph.specs.Graphs.{Flow}
use Rattle.flow_graph.proofs.Keeps.{flow-block}
use Rattle.flow_graph.proofs.graph.Graph.add_block.Goals as goal

pub invariant_of-self-2 : goal.invariant_of-self-2
invariant_of-self-2 c =
    let i = c.self.invariant in
    let room = subst (λ (f : Flow). length f.blocks < 0xffffffff) (sym c.self.view_is) c.requires in
    rw c.in_ok-block.ensures.1 (i.0, flow-block _ i.0 i.1 room, i.2)
