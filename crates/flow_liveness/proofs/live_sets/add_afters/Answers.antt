use Rattle.std.proofs.Common.{◌≡◌, ◌<◌, Some, length, get_or, refl, sym, arith, ◌∙◌}
use Rattle.std.specs.List.{slice_get}
use Rattle.std.proofs.lemmas.Option.{same_Some, slice_get_within}
use Rattle.flow_graph.specs.Liveness.{IsLiveAfter}
use Rattle.flow_liveness.proofs.Adding.{has-item}
use Rattle.flow_liveness.proofs.Listing.{ListedAt, all-smaller, listing-end, listing-more, live-placed}
use Rattle.flow_liveness.proofs.Placed.{placed-within}
use Rattle.flow_liveness.proofs.Stepping.{steps-start}
use Rattle.flow_liveness.proofs.live_sets.add_afters.Goals as goal

pub loop-point-init : goal.loop-point-init
loop-point-init c = record {
  after = steps-start (ListedAt c.args.var (λ i p. slice_get c.args.after.now i ≡ Some p)
      (IsLiveAfter c.args.graph.now c.args.var)) c.args.sets.now.after;
  before = refl;
}

pub add_after-requires-clause-in_range : goal.add_after-requires-clause-in_range
add_after-requires-clause-in_range c =
    let p = get_or c.args.after.now c.loop-point.point-index 0 in
    let live : IsLiveAfter c.args.graph.now c.args.var p = (c.requires.reach.1.live p).0 (
      c.loop-point.point-index,
      has-item c.args.after.now c.loop-point.point-index 0 c.loop-point-test.true,
    ) in
    rw (c.loop-point.invariant.after.as_many ∙ c.requires.points) (placed-within c.args.graph.now
    c.is_flow.ensures.0 c.is_flow.ensures.1 p (live-placed c.args.graph.now c.args.var p live))

pub add_after-requires-clause-greatest : goal.add_after-requires-clause-greatest
add_after-requires-clause-greatest c =
    let p = get_or c.args.after.now c.loop-point.point-index 0 in
    all-smaller c.args.var (λ i q. slice_get c.args.after.now i ≡ Some q)
    (IsLiveAfter c.args.graph.now c.args.var) c.loop-point.point-index p c.args.sets.now.after
    c.loop-point.sets.after c.requires.smaller
    (λ j l at. let same : j ≡ c.loop-point.point-index =
    c.requires.reach.1.after_once j c.loop-point.point-index p at
    (has-item c.args.after.now c.loop-point.point-index 0 c.loop-point-test.true) in omega arith)
    c.loop-point.invariant.after

pub loop-point-preserved : goal.loop-point-preserved
loop-point-preserved c =
    let p = get_or c.args.after.now c.loop-point.point-index 0 in
    let here = has-item c.args.after.now c.loop-point.point-index 0 c.loop-point-test.true in
    let live : IsLiveAfter c.args.graph.now c.args.var p =
    (c.requires.reach.1.live p).0 (c.loop-point.point-index, here) in
    let within : p < length c.loop-point.sets.after =
    rw (c.loop-point.invariant.after.as_many ∙ c.requires.points) (placed-within c.args.graph.now
    c.is_flow.ensures.0 c.is_flow.ensures.1 p (live-placed c.args.graph.now c.args.var p live)) in
    record {
      after = rw c.in_ok-add_after.ensures (listing-more c.args.var (λ i q. slice_get c.args.after.now i ≡ Some q)
          (IsLiveAfter c.args.graph.now c.args.var) c.loop-point.point-index p c.args.sets.now.after
          c.loop-point.sets.after within live here (λ q at. same_Some q p (sym at ∙ here))
          c.loop-point.invariant.after);
      before = rw c.in_ok-add_after.ensures c.loop-point.invariant.before;
    }

pub returns-clause-after : goal.returns-clause-after
returns-clause-after c =
    listing-end c.args.var (λ i q. slice_get c.args.after.now i ≡ Some q)
    (IsLiveAfter c.args.graph.now c.args.var) c.loop-point.point-index c.args.sets.now.after
    c.loop-point.sets.after
    (λ p live.
    let (i, at) = (c.requires.reach.1.live p).1 live in
    (i, (let within = slice_get_within c.args.after.now i p at in omega arith), at))
    c.loop-point.invariant.after
