-- One more point, and the moves to the next one.
use Rattle.std.proofs.Common.{◌≡◌, ◌+◌, ℕ, List, Some, ap, subst, ◌∙◌, arith}
use Rattle.std.specs.Prelude.{slice_get}
use Rattle.flow_graph.specs.Graphs.{Flow, points_of}
use Rattle.flow_liveness.proofs.Adding.{has-in, has-read}
use Rattle.flow_liveness.proofs.Placed.{placed-within}
use Rattle.ia32_select.specs.Sites.{flow_of, placement_of}
use Rattle.ia32_select.proofs.PointRows.{rows-more}
use Rattle.ia32_select.proofs.blocks.emit_block.Goals as goal

pub emit_point_and_moves-requires-clause-placed : goal.emit_point_and_moves-requires-clause-placed
emit_point_and_moves-requires-clause-placed c =
    let points : List ℕ = points_of (flow_of c.args.site.now) c.args.block in
    let p : ℕ = c.index.result.now in
    let here : slice_get points c.loop-place.place ≡ Some p =
    subst (λ (ps : List ℕ). slice_get ps c.loop-place.place ≡ Some p) c.in_ok-points.ensures
    (has-read c.in_ok-points.points.items c.loop-place.place p (omega arith) c.index.ensures) in
    (c.args.block, has-in p points (c.loop-place.place, here))

pub emit_point_and_moves-requires-clause-there : goal.emit_point_and_moves-requires-clause-there
emit_point_and_moves-requires-clause-there c =
    let flow : Flow = flow_of c.args.site.now in
    let points : List ℕ = points_of flow c.args.block in
    let p : ℕ = c.index.result.now in
    let here : slice_get points c.loop-place.place ≡ Some p =
    subst (λ (ps : List ℕ). slice_get ps c.loop-place.place ≡ Some p) c.in_ok-points.ensures
    (has-read c.in_ok-points.points.items c.loop-place.place p (omega arith) c.index.ensures) in
    let within = placed-within flow c.is_flow.ensures.0 c.is_flow.ensures.1 p
    (c.args.block, has-in p points (c.loop-place.place, here)) in
    let same = c.requires.points in
    omega (arith, within, same)

pub loop-place-preserved : goal.loop-place-preserved
loop-place-preserved c =
    let flow : Flow = flow_of c.args.site.now in
    let points : List ℕ = points_of flow c.args.block in
    let p : ℕ = c.index.result.now in
    let here : slice_get points c.loop-place.place ≡ Some p =
    subst (λ (ps : List ℕ). slice_get ps c.loop-place.place ≡ Some p) c.in_ok-points.ensures
    (has-read c.in_ok-points.points.items c.loop-place.place p (omega arith) c.index.ensures) in
    rows-more flow (placement_of c.args.site.now) points c.loop-place.place p c.point_at-next.result
    c.loop-place.out.items c.emit_point_and_moves.new.out.items _ here
    (c.point_at-next.ensures ∙ ap (λ (ps : List ℕ). slice_get ps (c.loop-place.place + 1))
    (c.as_slice.ensures.value ∙ c.in_ok-points.ensures)) c.loop-place.invariant c.in_ok-emit_point_and_moves.ensures
