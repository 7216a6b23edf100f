use Rattle.std.proofs.Common.{refl, ◌<◌, length, get_or, subst, arith, ◌∙◌}
use Rattle.std.proofs.lemmas.Option.{slice_get_within}
use Rattle.flow_graph.specs.Liveness.{IsLiveBefore}
use Rattle.flow_liveness.proofs.Adding.{has-item}
use Rattle.flow_liveness.proofs.Listing.{FoundAt, ListedAt, all-smaller, distance-next, found-once, found-only, listing-end}
use Rattle.flow_liveness.proofs.Listing.{listing-more, live-found, next-dead}
use Rattle.flow_liveness.proofs.Placed.{placed-within}
use Rattle.flow_liveness.proofs.Searching.{next-placed}
use Rattle.flow_liveness.proofs.Stepping.{steps-past, steps-start}
use Rattle.flow_liveness.proofs.live_sets.add_befores.Goals.{then-is_live_before+in_ok-add_before, else-is_live_before}
use Rattle.flow_liveness.proofs.live_sets.add_befores.Goals as goal

pub loop-point-init : goal.loop-point-init
loop-point-init c = record {
  before = steps-start (ListedAt c.args.var (FoundAt c.args.nexts.now)
      (IsLiveBefore c.args.graph.now c.args.var)) c.args.sets.now.before;
  after = refl;
}

pub is_live_before-requires : goal.is_live_before-requires
is_live_before-requires c =
    let e = get_or c.args.nexts.now c.loop-point.point-index (0, 0) in
    distance-next c.args.graph.now c.args.var e.0 e.1 ((c.requires.reach.1.distances e.0 e.1).0
    (c.loop-point.point-index, has-item c.args.nexts.now c.loop-point.point-index (0, 0) c.loop-point-test.true))

pub add_before-requires-clause-in_range : goal.add_before-requires-clause-in_range
add_before-requires-clause-in_range c =
    let e = get_or c.args.nexts.now c.loop-point.point-index (0, 0) in
    let next = distance-next c.args.graph.now c.args.var e.0 e.1 ((c.requires.reach.1.distances e.0 e.1).0
    (c.loop-point.point-index, has-item c.args.nexts.now c.loop-point.point-index (0, 0) c.loop-point-test.true)) in
    rw (c.loop-point.invariant.before.as_many ∙ c.requires.points) (placed-within c.args.graph.now
    c.is_flow.ensures.0 c.is_flow.ensures.1 e.0 (next-placed c.args.graph.now c.args.var e.0 e.1 next))

pub add_before-requires-clause-greatest : goal.add_before-requires-clause-greatest
add_before-requires-clause-greatest c =
    let e = get_or c.args.nexts.now c.loop-point.point-index (0, 0) in
    all-smaller c.args.var (FoundAt c.args.nexts.now) (IsLiveBefore c.args.graph.now c.args.var)
    c.loop-point.point-index e.0 c.args.sets.now.before c.loop-point.sets.before c.requires.smaller
    (found-once c.args.graph.now c.args.var c.args.nexts.now c.requires.reach.0 c.requires.reach.1
    c.loop-point.point-index e
    (has-item c.args.nexts.now c.loop-point.point-index (0, 0) c.loop-point-test.true))
    c.loop-point.invariant.before

pub loop-point-preserved : goal.loop-point-preserved
loop-point-preserved c =
    let e = get_or c.args.nexts.now c.loop-point.point-index (0, 0) in
    let here = has-item c.args.nexts.now c.loop-point.point-index (0, 0) c.loop-point-test.true in
    let next = distance-next c.args.graph.now c.args.var e.0 e.1 ((c.requires.reach.1.distances e.0 e.1).0
    (c.loop-point.point-index, here)) in
    let within : e.0 < length c.loop-point.sets.before =
    rw (c.loop-point.invariant.before.as_many ∙ c.requires.points) (placed-within c.args.graph.now
    c.is_flow.ensures.0 c.is_flow.ensures.1 e.0 (next-placed c.args.graph.now c.args.var e.0 e.1 next)) in
    elim c.if-is_live_before.branch [
      | then-is_live_before+in_ok-add_before w ↦ record {
        before = rw (w.sets-is, w.in_ok-add_before.ensures) (listing-more c.args.var (FoundAt c.args.nexts.now)
            (IsLiveBefore c.args.graph.now c.args.var) c.loop-point.point-index e.0 c.args.sets.now.before
            c.loop-point.sets.before within (e.1, w.if-is_live_before.ensures) (e.1, here)
            (found-only c.args.nexts.now c.loop-point.point-index e here) c.loop-point.invariant.before);
        after = rw (w.sets-is, w.in_ok-add_before.ensures) c.loop-point.invariant.after;
      }
      | else-is_live_before w ↦ record {
        before = rw w.sets-is (steps-past (ListedAt c.args.var (FoundAt c.args.nexts.now)
            (IsLiveBefore c.args.graph.now c.args.var)) c.loop-point.point-index c.args.sets.now.before
            c.loop-point.sets.before
            (λ v p m. next-dead c.args.graph.now c.args.var e.0 e.1 next w.if-is_live_before.ensures
            (subst (IsLiveBefore c.args.graph.now c.args.var) (found-only c.args.nexts.now c.loop-point.point-index e
            here p m.1) m.2)) c.loop-point.invariant.before);
        after = rw w.sets-is c.loop-point.invariant.after;
      }
    ]

pub returns-clause-before : goal.returns-clause-before
returns-clause-before c =
    listing-end c.args.var (FoundAt c.args.nexts.now) (IsLiveBefore c.args.graph.now c.args.var)
    c.loop-point.point-index c.args.sets.now.before c.loop-point.sets.before
    (λ p live.
    let (n, (i, at)) = live-found c.args.graph.now c.args.var c.args.nexts.now c.requires.reach.0
    c.requires.reach.1 p live in
    (i, (let within = slice_get_within c.args.nexts.now i (p, n) at in omega arith), (n, at)))
    c.loop-point.invariant.before
