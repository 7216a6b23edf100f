use Rattle.std.proofs.Common.{ℕ, ◌≡◌, ◌<◌, Some, length, get_or, refl, arith, ◌∙◌}
use Rattle.std.proofs.Math.ListN.{length-set}
use Rattle.std.specs.List.{slice_get}
use Rattle.std.proofs.lemmas.Bool.{false≢true}
use Rattle.flow_liveness.proofs.Adding.{has-item}
use Rattle.flow_liveness.proofs.Starting.{start-again, start-more, start-none, start-same, upto-end, upto-more}
use Rattle.flow_liveness.proofs.search.start.Goals.{then-not-has+in_ok-push, else-not-has}
use Rattle.flow_liveness.proofs.search.start.Goals as goal

pub loop-point-init : goal.loop-point-init
loop-point-init c = record {
  start = rw c.clear.ensures.items (start-none c.args.var
      (λ p. (i : ℕ) × (i < 0) × (slice_get c.args.uses.now i ≡ Some p))
      c.args.search.now.used (λ p (i, l, e). omega arith) c.requires.earlier);
  after = c.clear-2.ensures.items;
  points = refl;
  passed = refl;
}

pub has-requires : goal.has-requires
has-requires c =
    rw c.loop-point.invariant.points (c.requires.points (get_or c.args.uses.now c.loop-point.point-index 0)
    (c.loop-point.point-index, has-item c.args.uses.now c.loop-point.point-index 0 c.loop-point-test.true))

pub set-requires : goal.set-requires
set-requires c =
    rw c.loop-point.invariant.points (c.requires.points (get_or c.args.uses.now c.loop-point.point-index 0)
    (c.loop-point.point-index, has-item c.args.uses.now c.loop-point.point-index 0 c.loop-point-test.true))

pub loop-point-preserved : goal.loop-point-preserved
loop-point-preserved c =
    let y = get_or c.args.uses.now c.loop-point.point-index 0 in
    let at = has-item c.args.uses.now c.loop-point.point-index 0 c.loop-point-test.true in
    let within : y < length c.loop-point.search.used =
    rw c.loop-point.invariant.points (c.requires.points y (c.loop-point.point-index, at)) in
    elim c.if-not-has.branch [
      | then-not-has+in_ok-push w ↦ rw w.search-is (record {
        start = rw (w.in_ok-push.ensures.items, w.set.ensures) (start-same c.args.var _ _ _ _
            (upto-more c.args.uses.now c.loop-point.point-index y at)
            (start-more c.args.var _ c.loop-point.search.nexts.items c.loop-point.search.used y within
            (λ m. false≢true (w.if-not-has.ensures.1 m)) c.loop-point.invariant.start));
        after = c.loop-point.invariant.after;
        points = rw w.set.ensures (length-set c.loop-point.search.used y (Some c.args.var)
            ∙ c.loop-point.invariant.points);
        passed = c.loop-point.invariant.passed;
      })
      | else-not-has w ↦ rw w.search-is (record {
        start = start-same c.args.var _ _ _ _ (upto-more c.args.uses.now c.loop-point.point-index y at)
            (start-again c.args.var _ c.loop-point.search.nexts.items c.loop-point.search.used y
            (w.if-not-has.ensures.0 refl) c.loop-point.invariant.start);
        after = c.loop-point.invariant.after;
        points = c.loop-point.invariant.points;
        passed = c.loop-point.invariant.passed;
      })
    ]

pub returns : goal.returns
returns c = record {
  start = start-same c.args.var _ _ _ _ (upto-end c.args.uses.now c.loop-point.point-index c.loop-point-test.false)
      c.loop-point.invariant.start;
  after = c.loop-point.invariant.after;
  used = c.loop-point.invariant.points;
  passed = c.loop-point.invariant.passed;
}
