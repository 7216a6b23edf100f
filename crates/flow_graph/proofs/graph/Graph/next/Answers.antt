use Rattle.std.proofs.Common.{refl, sym, subst, ◌∙◌}
use Rattle.index_lists.specs.Lists.{Lists}
use Rattle.flow_graph.specs.Graphs.{Flow, IsPlaced, block_of}
use Rattle.flow_graph.specs.Ordered.{ordered}
use Rattle.flow_graph.proofs.Parted.{Found, found, listed, found-next}
use Rattle.flow_graph.proofs.graph.Graph.next.Goals as goal

pub next-requires-clause-at : goal.next-requires-clause-at
next-requires-clause-at c =
    let order : Lists = c.self.inside.order in
    let v : Flow = ordered c.self.inside.widths.items c.self.inside.arrays.items order c.self.inside.ops.items in
    let i = c.self.invariant in
    let placed : IsPlaced v c.args.point = subst (λ (f : Flow). IsPlaced f c.args.point) (sym c.self.view_is)
    c.requires in
    let h : Found v order c.args.point = found v order c.args.point refl placed in
    let b = block_of v c.args.point in
    listed v order c.args.point h

pub returns : goal.returns
returns c =
    let order : Lists = c.self.inside.order in
    let v : Flow = ordered c.self.inside.widths.items c.self.inside.arrays.items order c.self.inside.ops.items in
    let i = c.self.invariant in
    let placed : IsPlaced v c.args.point = subst (λ (f : Flow). IsPlaced f c.args.point) (sym c.self.view_is)
    c.requires in
    let h : Found v order c.args.point = found v order c.args.point refl placed in
    let b = block_of v c.args.point in
    rw (← c.self.view_is) (c.next.ensures b h.before h.after h.stands ∙ found-next v order c.args.point h)
