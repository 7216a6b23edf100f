use Rattle.std.proofs.Common.{◌<◌, ◌≤◌, rules, length, sym, subst}
use Rattle.flow_graph.specs.Graphs.{Flow}
use Rattle.flow_graph.proofs.Keeps.{flow-array}
use Rattle.flow_graph.proofs.graph.Graph.add_array.Goals as goal

pub invariant_of-self-2 : goal.invariant_of-self-2
invariant_of-self-2 c =
    let i = c.self.invariant in
    let few : c.args.count ≤ 0xffffffff = search rules in
    let room = subst (λ (f : Flow). length f.arrays < 0xffffffff) (sym c.self.view_is) c.requires.room in (
      i.0,
      rw c.in_ok-push.ensures.items (flow-array _ i.0 c.args.width c.args.count i.1
          (c.requires.known_width, c.requires.some_elements) few room),
      i.2,
    )
