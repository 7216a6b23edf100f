use Rattle.std.proofs.Common.{◌≡◌, ◌∙◌, ◌+◌, ◌*◌, ℕ, length, ap, arith, subst}
use Rattle.flow_graph.specs.Graphs.{Flow}
use Rattle.allocator.specs.PointMaps.{bytes_of_arrays}
use Rattle.allocator.specs.Progress.{IsDoneTo}
use Rattle.allocator.proofs.Doing.{done-first, is-allocation, is-legal, none-count}
use Rattle.allocator.proofs.allocation.allocate.Goals as goal

pub loop-point-init : goal.loop-point-init
loop-point-init c =
    let form = c.args.form.now in
    record {
      done =
          done-first form c.vars.result c.points.result c.in_ok-map.map c.in_ok-map.ensures
          (c.points.ensures ∙ ap (λ (f : Flow). length f.ops) c.graph-graph.ensures)
          (c.vars.ensures ∙ ap (λ (f : Flow). length f.widths) c.graph-graph.ensures);
      count = none-count c.vars.result c.in_ok-map.map c.points.result 0 c.in_ok-map.ensures;
    }

pub returns-clause-allocated : goal.returns-clause-allocated
returns-clause-allocated c =
    let form = c.args.form.now in
    let flow-is = c.graph-graph.ensures in
    let points : c.points-point-end.result ≡ length form.graph.ops =
    c.points-point-end.ensures ∙ ap (λ (f : Flow). length f.ops) flow-is in
    let end : c.loop-point.point ≡ length form.graph.ops =
    omega (arith, points, c.loop-point-test.false, c.loop-point.auto.point-end) in
    let done : IsDoneTo form (length form.graph.ops) c.loop-point.map =
    subst (λ (n : ℕ). IsDoneTo form n c.loop-point.map) end c.loop-point.invariant.done in
    let bytes : c.bytes_of_arrays.result ≡ bytes_of_arrays form.graph.arrays =
    c.bytes_of_arrays.ensures ∙ ap (λ (f : Flow). bytes_of_arrays f.arrays) flow-is in
    is-allocation form c.loop-point.map c.set_frame.new.self c.loop-point.given _ done c.set_frame.ensures
    c.loop-point.invariant.count (ap (λ (n : ℕ). 16 + 4 * c.loop-point.given + n) bytes)

pub returns-clause-legal : goal.returns-clause-legal
returns-clause-legal c =
    let form = c.args.form.now in
    let flow-is = c.graph-graph.ensures in
    let points : c.points-point-end.result ≡ length form.graph.ops =
    c.points-point-end.ensures ∙ ap (λ (f : Flow). length f.ops) flow-is in
    let end : c.loop-point.point ≡ length form.graph.ops =
    omega (arith, points, c.loop-point-test.false, c.loop-point.auto.point-end) in
    let done : IsDoneTo form (length form.graph.ops) c.loop-point.map =
    subst (λ (n : ℕ). IsDoneTo form n c.loop-point.map) end c.loop-point.invariant.done in
    let bytes : c.bytes_of_arrays.result ≡ bytes_of_arrays form.graph.arrays =
    c.bytes_of_arrays.ensures ∙ ap (λ (f : Flow). bytes_of_arrays f.arrays) flow-is in
    is-legal form c.loop-point.map c.set_frame.new.self c.loop-point.given _ done c.set_frame.ensures
    c.loop-point.invariant.count (ap (λ (n : ℕ). 16 + 4 * c.loop-point.given + n) bytes) c.is_form.ensures
