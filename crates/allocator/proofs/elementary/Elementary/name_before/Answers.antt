use Rattle.std.proofs.Common.{sym, subst, arith}
use Rattle.flow_graph.specs.Graphs.{IsPlaced}
use Rattle.flow_liveness.proofs.Placed.{placed-within}
use Rattle.allocator.specs.SplitForms.{Form}
use Rattle.allocator.proofs.elementary.Elementary.name_before.Goals as goal

pub before-requires : goal.before-requires
before-requires c =
    let placed = subst (λ (form : Form). IsPlaced form.graph c.args.point) (sym c.self.view_is)
    (c.in_ok-place.ensures {u = tt}).there.1 in
    let within = placed-within c.self.inside.graph c.is_flow.ensures.0 c.is_flow.ensures.1 c.args.point placed in
    omega (arith, within, c.self.invariant.0.live.befores)
