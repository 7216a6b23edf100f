use Rattle.std.proofs.Common.{ℕ, ◌≡◌, List, subst, ◌∙◌, get_or}
use Rattle.flow_graph.specs.Graphs.{IsIn, points_of}
use Rattle.flow_graph.specs.Liveness.{IsUsedAt}
use Rattle.flow_liveness.specs.Lists.{Adds}
use Rattle.flow_liveness.proofs.Adding.{has-in, has-item}
use Rattle.flow_liveness.proofs.Stepping.{steps-start}
use Rattle.flow_liveness.proofs.Walks.{AlongPoints, list-end, list-step}
use Rattle.flow_liveness.proofs.block_uses.add_block.Goals as goal

pub loop-point-init : goal.loop-point-init
loop-point-init c =
    steps-start (AlongPoints c.as_slice-point-items.result.now (λ x v. IsUsedAt c.args.graph.now v x)) c.args.uses.now

pub add_uses-requires-clause-placed : goal.add_uses-requires-clause-placed
add_uses-requires-clause-placed c =
    let items = c.as_slice-point-items.result.now in
    let here = has-item items c.loop-point.point-index 0 c.loop-point-test.true in
    let same : items ≡ points_of c.args.graph.now c.args.block =
    c.as_slice-point-items.ensures.value ∙ c.in_ok-points.ensures in (
      c.args.block,
      subst (IsIn (get_or items c.loop-point.point-index 0)) same
          (has-in (get_or items c.loop-point.point-index 0) items (c.loop-point.point-index, here)),
    )

pub loop-point-preserved : goal.loop-point-preserved
loop-point-preserved c =
    let items = c.as_slice-point-items.result.now in
    list-step (λ x v. IsUsedAt c.args.graph.now v x) items c.loop-point.point-index
    (get_or items c.loop-point.point-index 0) _ _ _
    (has-item items c.loop-point.point-index 0 c.loop-point-test.true) c.loop-point.invariant
    c.in_ok-add_uses.ensures

pub returns : goal.returns
returns c =
    let same : c.as_slice-point-items.result.now ≡ points_of c.args.graph.now c.args.block =
    c.as_slice-point-items.ensures.value ∙ c.in_ok-points.ensures in
    subst (λ (ps : List ℕ). Adds c.args.uses.now c.loop-point.uses (λ x v. IsIn x ps × IsUsedAt c.args.graph.now v x))
    same
    (list-end (λ x v. IsUsedAt c.args.graph.now v x) c.as_slice-point-items.result.now c.loop-point.point-index _ _
    c.loop-point-test.false c.loop-point.invariant)
