use Rattle.std.proofs.Common.{◌<◌, length, sym, subst}
use Rattle.flow_graph.specs.Graphs.{Flow}
use Rattle.flow_graph.proofs.Keeps.{flow-variable}
use Rattle.flow_graph.proofs.graph.Graph.add_var.Goals as goal

pub invariant_of-self-2 : goal.invariant_of-self-2
invariant_of-self-2 c =
    let i = c.self.invariant in
    let room = subst (λ (f : Flow). length f.widths < 0xffffffff) (sym c.self.view_is) c.requires in
    (i.0, rw c.in_ok-push.ensures.items (flow-variable _ i.0 c.args.width i.1 room), i.2)
