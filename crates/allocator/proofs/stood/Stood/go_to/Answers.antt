use Rattle.std.proofs.Common.{◌≡◌, ◌∙◌, ap, arith, length, subst}
use Rattle.flow_graph.specs.Graphs.{Flow, IsFlow}
use Rattle.flow_graph.specs.Lives.{Lives}
use Rattle.flow_liveness.proofs.Placed.{placed-within}
use Rattle.allocator.proofs.stood.Stood.go_to.Goals as goal

pub before-requires : goal.before-requires
before-requires c =
    let form = c.args.form.now in
    let flows : IsFlow form.graph c.is_flow.ensures.0 =
    subst (λ (f : Flow). IsFlow f c.is_flow.ensures.0) c.graph.ensures c.is_flow.ensures.1 in
    let there = placed-within form.graph c.is_flow.ensures.0 flows c.args.point c.requires.placed in
    let many : length c.live.result.now.before ≡ length form.graph.ops =
    ap (λ (lives : Lives). length lives.before) c.live.ensures ∙ c.is_form.ensures.live.befores in
    omega (arith, there, many)
