use Rattle.std.proofs.Common.{◌≡◌, ◌<◌, inl, inr, length, refl, get_or, ◌∙◌}
use Rattle.flow_graph.specs.Liveness.{IsDistance}
use Rattle.flow_liveness.proofs.Adding.{has-item}
use Rattle.flow_liveness.proofs.Listing.{DistanceAt, distance-found, distance-next, distance-only, found-once}
use Rattle.flow_liveness.proofs.Placed.{placed-within}
use Rattle.flow_liveness.proofs.Searching.{next-placed}
use Rattle.flow_liveness.proofs.Stepping.{steps-end, steps-more, steps-start}
use Rattle.flow_liveness.proofs.distances.add_all.Goals as goal

pub loop-point-init : goal.loop-point-init
loop-point-init c = steps-start (DistanceAt c.args.nexts.now c.args.var) c.args.distances.now

pub add-requires-clause-in_range : goal.add-requires-clause-in_range
add-requires-clause-in_range c =
    let e = get_or c.args.nexts.now c.loop-point.point-index (0, 0) in
    let next = distance-next c.args.graph.now c.args.var e.0 e.1 ((c.requires.reach.1.distances e.0 e.1).0
    (c.loop-point.point-index, has-item c.args.nexts.now c.loop-point.point-index (0, 0) c.loop-point-test.true)) in
    rw (c.loop-point.invariant.as_many ∙ c.requires.points) (placed-within c.args.graph.now
    c.is_flow.ensures.0 c.is_flow.ensures.1 e.0 (next-placed c.args.graph.now c.args.var e.0 e.1 next))

pub add-requires-clause-smaller : goal.add-requires-clause-smaller
add-requires-clause-smaller c = λ v n has.
    let e = get_or c.args.nexts.now c.loop-point.point-index (0, 0) in
    elim ((c.loop-point.invariant.has (v, n) e.0).0 has) [
      | inl old ↦ c.requires.smaller (v, n) e.0 old
      | inr (i, l, (same, at)) ↦ absurd (found-once c.args.graph.now c.args.var c.args.nexts.now c.requires.reach.0
          c.requires.reach.1 c.loop-point.point-index e
          (has-item c.args.nexts.now c.loop-point.point-index (0, 0) c.loop-point-test.true) i l (n, at))
    ]

pub loop-point-preserved : goal.loop-point-preserved
loop-point-preserved c =
    let e = get_or c.args.nexts.now c.loop-point.point-index (0, 0) in
    let here = has-item c.args.nexts.now c.loop-point.point-index (0, 0) c.loop-point-test.true in
    let next = distance-next c.args.graph.now c.args.var e.0 e.1 ((c.requires.reach.1.distances e.0 e.1).0
    (c.loop-point.point-index, here)) in
    let within : e.0 < length c.loop-point.distances =
    rw (c.loop-point.invariant.as_many ∙ c.requires.points) (placed-within c.args.graph.now
    c.is_flow.ensures.0 c.is_flow.ensures.1 e.0 (next-placed c.args.graph.now c.args.var e.0 e.1 next)) in
    rw c.in_ok-add.ensures (steps-more (DistanceAt c.args.nexts.now c.args.var) c.loop-point.point-index
    (c.args.var, e.1) e.0 c.args.distances.now c.loop-point.distances within (refl, here)
    (distance-only c.args.nexts.now c.args.var c.loop-point.point-index e here) c.loop-point.invariant)

pub returns : goal.returns
returns c =
    steps-end (DistanceAt c.args.nexts.now c.args.var) c.loop-point.point-index _ _
    (λ entry p. (entry.0 ≡ c.args.var) × IsDistance c.args.graph.now c.args.var p entry.1)
    (λ i entry p at. let (same, found) = at in (same, (c.requires.reach.1.distances p entry.1).0 (i, found)))
    (distance-found c.args.graph.now c.args.var c.args.nexts.now c.requires.reach.0 c.requires.reach.1
    c.loop-point.point-index c.loop-point-test.false) c.loop-point.invariant
