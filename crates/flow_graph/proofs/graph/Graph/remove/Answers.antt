use Rattle.std.proofs.Common.{◌≡◌, refl, sym, ap, subst, ◌∙◌}
use Rattle.index_lists.specs.Lists.{Lists, with_list}
use Rattle.flow_graph.specs.Graphs.{Flow, IsPlaced, block_of, points_of}
use Rattle.flow_graph.specs.Graphs.{without}
use Rattle.flow_graph.specs.Ordered.{ordered}
use Rattle.flow_graph.proofs.Keeps.{flow-remove}
use Rattle.flow_graph.proofs.Parted.{Found, found, listed, found-without}
use Rattle.flow_graph.proofs.graph.Graph.remove.Goals as goal

pub unlink-requires-clause-at : goal.unlink-requires-clause-at
unlink-requires-clause-at c =
    let order : Lists = c.self.inside.order in
    let v : Flow = ordered c.self.inside.widths.items c.self.inside.arrays.items order c.self.inside.ops.items in
    let i = c.self.invariant in
    let placed : IsPlaced v c.args.point = subst (λ (f : Flow). IsPlaced f c.args.point) (sym c.self.view_is)
    c.requires.placed in
    let h : Found v order c.args.point = found v order c.args.point refl placed in
    let b = block_of v c.args.point in
    listed v order c.args.point h

pub invariant_of-self : goal.invariant_of-self
invariant_of-self c =
    let order : Lists = c.self.inside.order in
    let v : Flow = ordered c.self.inside.widths.items c.self.inside.arrays.items order c.self.inside.ops.items in
    let i = c.self.invariant in
    let placed : IsPlaced v c.args.point = subst (λ (f : Flow). IsPlaced f c.args.point) (sym c.self.view_is)
    c.requires.placed in
    let h : Found v order c.args.point = found v order c.args.point refl placed in
    let b = block_of v c.args.point in
    let left : c.unlink.new.order ≡ with_list order b (without c.args.point (points_of v b)) =
    c.unlink.ensures b h.before h.after h.stands
    ∙ ap (with_list order b) (sym (found-without v order c.args.point h)) in
    rw left (i.0, flow-remove v i.0 b c.args.point i.1 h.block, i.2)

pub returns : goal.returns
returns c =
    let order : Lists = c.self.inside.order in
    let v : Flow = ordered c.self.inside.widths.items c.self.inside.arrays.items order c.self.inside.ops.items in
    let i = c.self.invariant in
    let placed : IsPlaced v c.args.point = subst (λ (f : Flow). IsPlaced f c.args.point) (sym c.self.view_is)
    c.requires.placed in
    let h : Found v order c.args.point = found v order c.args.point refl placed in
    let b = block_of v c.args.point in
    let left : c.unlink.new.order ≡ with_list order b (without c.args.point (points_of v b)) =
    c.unlink.ensures b h.before h.after h.stands
    ∙ ap (with_list order b) (sym (found-without v order c.args.point h)) in
    rw (← c.self.view_is, left) refl
