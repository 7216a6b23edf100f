use Rattle.std.proofs.Common.{ℕ, ◌≡◌, ◌<◌, length, Some, refl, sym, ◌∙◌, arith}
use Rattle.std.specs.List.{slice_get}
use Rattle.flow_graph.specs.Liveness.{uses}
use Rattle.flow_liveness.proofs.Using.{used-within}
use Rattle.flow_liveness.proofs.Stepping.{steps-more, steps-past, steps-start}
use Rattle.flow_liveness.proofs.Using.{UseAt, use-only, used-here, uses-end}
use Rattle.flow_liveness.proofs.block_uses.add_uses.Goals.{in-Some+in_ok-push, in_default}
use Rattle.flow_liveness.proofs.block_uses.add_uses.Goals as goal

pub loop-place-init : goal.loop-place-init
loop-place-init c = steps-start (UseAt c.args.point (uses c.op-op.result.now)) c.args.uses.now

pub push-requires : goal.push-requires
push-requires c =
    let within = used-within c.args.graph.now c.is_flow.ensures.0 c.is_flow.ensures.1 c.in-Some.var c.args.point
    (used-here c.args.graph.now c.args.point c.op-op.result.now c.requires.placed c.op-op.ensures c.loop-place.place
    c.in-Some.var (sym c.use_at.ensures ∙ c.in-Some.is)) in
    rw (c.loop-place.invariant.as_many ∙ c.requires.variables) within

pub loop-place-preserved : goal.loop-place-preserved
loop-place-preserved c =
    let here : (v : ℕ) → slice_get (uses c.op-op.result.now) c.loop-place.place ≡ Some v
    → v < length c.loop-place.uses =
    λ v e. rw (c.loop-place.invariant.as_many ∙ c.requires.variables) (used-within c.args.graph.now
    c.is_flow.ensures.0 c.is_flow.ensures.1 v c.args.point (used-here c.args.graph.now c.args.point
    c.op-op.result.now c.requires.placed c.op-op.ensures c.loop-place.place v e)) in
    elim c.match-use_at.branch [
      | in-Some+in_ok-push w ↦
          let v = w.in-Some.var in
          let at = sym c.use_at.ensures ∙ w.in-Some.is in
          rw (w.uses-is, w.in_ok-push.ensures) (steps-more (UseAt c.args.point (uses c.op-op.result.now))
          c.loop-place.place c.args.point v c.args.uses.now c.loop-place.uses (here v at) (refl, at)
          (use-only c.args.point (uses c.op-op.result.now) c.loop-place.place v at) c.loop-place.invariant)
      | in_default w ↦ rw w.uses-is (steps-past (UseAt c.args.point (uses c.op-op.result.now)) c.loop-place.place
          c.args.uses.now c.loop-place.uses (λ user v m. w.in_default.not-Some v (c.use_at.ensures ∙ m.1))
          c.loop-place.invariant)
    ]

pub returns : goal.returns
returns c =
    uses-end c.args.graph.now c.args.point c.op-op.result.now c.requires.placed c.op-op.ensures c.loop-place.place _ _
    (omega arith) c.loop-place.invariant
