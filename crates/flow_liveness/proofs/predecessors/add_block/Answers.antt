use Rattle.std.proofs.Common.{ℕ, ◌≡◌, ◌+◌, Some, List, ap, subst, arith, ◌∙◌, add-one}
use Rattle.std.specs.List.{slice_get}
use Rattle.flow_graph.specs.Graphs.{IsIn, points_of}
use Rattle.flow_graph.specs.Liveness.{IsSuccessor}
use Rattle.flow_liveness.specs.Lists.{Adds}
use Rattle.flow_liveness.proofs.Adding.{has-in, has-read}
use Rattle.flow_liveness.proofs.Placed.{next-behind}
use Rattle.flow_liveness.proofs.Stepping.{steps-start}
use Rattle.flow_liveness.proofs.Walks.{AlongPoints, list-end, list-step}
use Rattle.flow_liveness.proofs.predecessors.add_block.Goals as goal

pub loop-place-init : goal.loop-place-init
loop-place-init c =
    steps-start (AlongPoints c.in_ok-points.points.items (IsSuccessor c.args.graph.now)) c.args.predecessors.now

pub add_edges-requires-clause-placed : goal.add_edges-requires-clause-placed
add_edges-requires-clause-placed c =
    let here = has-read c.in_ok-points.points.items c.loop-place.place c.index.result.now (omega arith)
    c.index.ensures in (
      c.args.block,
      has-in c.index.result.now (points_of c.args.graph.now c.args.block) (
        c.loop-place.place,
        subst (λ (ps : List ℕ). slice_get ps c.loop-place.place ≡ Some c.index.result.now) c.in_ok-points.ensures here,
      ),
    )

pub add_edges-requires-clause-next : goal.add_edges-requires-clause-next
add_edges-requires-clause-next c =
    let here = has-read c.in_ok-points.points.items c.loop-place.place c.index.result.now (omega arith)
    c.index.ensures in
    let next : c.number_at-next.result ≡ slice_get (points_of c.args.graph.now c.args.block) (c.loop-place.place + 1) =
    c.number_at-next.ensures ∙ ap (λ (ps : List ℕ). slice_get ps (c.loop-place.place + 1))
    (c.as_slice.ensures.value ∙ c.in_ok-points.ensures) in
    rw (next, add-one) (next-behind c.args.graph.now c.is_flow.ensures.0 c.is_flow.ensures.1 c.args.block
    c.loop-place.place
    c.index.result.now
    (subst (λ (ps : List ℕ). slice_get ps c.loop-place.place ≡ Some c.index.result.now) c.in_ok-points.ensures
    here))

pub loop-place-preserved : goal.loop-place-preserved
loop-place-preserved c =
    let here = has-read c.in_ok-points.points.items c.loop-place.place c.index.result.now (omega arith)
    c.index.ensures in
    list-step (IsSuccessor c.args.graph.now) c.in_ok-points.points.items c.loop-place.place c.index.result.now _ _ _
    here
    c.loop-place.invariant c.in_ok-add_edges.ensures

pub returns : goal.returns
returns c =
    subst (λ (ps : List ℕ). Adds c.args.predecessors.now c.loop-place.predecessors (λ x p. IsIn x ps
    × IsSuccessor c.args.graph.now x p)) c.in_ok-points.ensures
    (list-end (IsSuccessor c.args.graph.now) c.in_ok-points.points.items c.loop-place.place _ _ (omega arith)
    c.loop-place.invariant)
