use Rattle.std.proofs.Common.{None, [], length, replicate, ap, arith, ◌∙◌}
use Rattle.std.proofs.lemmas.List.{length-replicate}
use Rattle.flow_graph.specs.Liveness.{IsLiveAfter, IsLiveBefore}
use Rattle.flow_liveness.proofs.Variables.{after-within, before-within, earlier-next, earlier-none, vars-end, vars-in}
use Rattle.flow_liveness.proofs.Variables.{vars-more}
use Rattle.flow_liveness.proofs.Variables.{vars-smaller, vars-start}
use Rattle.flow_liveness.proofs.live_sets.live.Goals as goal

pub loop-var-init : goal.loop-var-init
loop-var-init c =
    let n = length c.args.graph.now.ops in
    record {
      before = rw (c.in_ok-sets.ensures, c.points-2.ensures)
          (vars-start (λ w. w) (λ v w p. IsLiveBefore c.args.graph.now v p)
          (replicate n []));
      after = rw (c.in_ok-sets.ensures, c.points-2.ensures)
          (vars-start (λ w. w) (λ v w p. IsLiveAfter c.args.graph.now v p)
          (replicate n []));
      used = rw c.in_ok-search.ensures.used (earlier-none c.points.result 0);
      passed = rw c.in_ok-search.ensures.passed (earlier-none c.points.result 0);
      used_points = ap length c.in_ok-search.ensures.used ∙ length-replicate c.points.result None ∙ c.points.ensures;
      passed_points = ap length c.in_ok-search.ensures.passed ∙ length-replicate c.points.result None
          ∙ c.points.ensures;
    }

pub add_befores-requires-clause-smaller : goal.add_befores-requires-clause-smaller
add_befores-requires-clause-smaller c =
    vars-smaller (λ w. w) (λ v w p. IsLiveBefore c.args.graph.now v p) (length c.args.graph.now.ops) c.loop-var.var
    c.loop-var.sets.before c.loop-var.invariant.before

pub add_afters-requires-clause-smaller : goal.add_afters-requires-clause-smaller
add_afters-requires-clause-smaller c =
    rw c.in_ok-add_befores.ensures.after (vars-smaller (λ w. w) (λ v w p. IsLiveAfter c.args.graph.now v p)
    (length c.args.graph.now.ops) c.loop-var.var c.loop-var.sets.after c.loop-var.invariant.after)

pub loop-var-preserved : goal.loop-var-preserved
loop-var-preserved c = record {
  before = rw c.in_ok-add_afters.ensures.before
      (vars-more (λ w. w) (λ v w p. IsLiveBefore c.args.graph.now v p) c.loop-var.var
      _ c.loop-var.sets.before c.add_befores.new.sets.before c.loop-var.invariant.before
      c.in_ok-add_befores.ensures.before);
  after = vars-more (λ w. w) (λ v w p. IsLiveAfter c.args.graph.now v p) c.loop-var.var _ c.loop-var.sets.after
      c.add_afters.new.sets.after c.loop-var.invariant.after
      (rw (← c.in_ok-add_befores.ensures.after) c.in_ok-add_afters.ensures.after);
  used = earlier-next c.run.new.search.used c.loop-var.var c.in_ok-run.ensures.used;
  passed = earlier-next c.run.new.search.passed c.loop-var.var c.in_ok-run.ensures.passed;
  used_points = c.in_ok-run.ensures.used_points;
  passed_points = c.in_ok-run.ensures.passed_points;
}

pub returns : goal.returns
returns c =
    let n = length c.args.graph.now.ops in
    record {
      befores = c.loop-var.invariant.before.as_many ∙ length-replicate n [];
      afters = c.loop-var.invariant.after.as_many ∙ length-replicate n [];
      before = λ p v h. vars-in (λ w q. IsLiveBefore c.args.graph.now w q) c.loop-var.sets.before p v
          (vars-end (λ w. w) (λ w x q. IsLiveBefore c.args.graph.now w q) n c.loop-var.var c.loop-var.sets.before
          (λ w q live. let l = before-within c.args.graph.now c.is_flow.ensures.0 c.is_flow.ensures.1 w q live in
          omega arith) c.loop-var.invariant.before v p);
      after = λ p v h. vars-in (λ w q. IsLiveAfter c.args.graph.now w q) c.loop-var.sets.after p v
          (vars-end (λ w. w) (λ w x q. IsLiveAfter c.args.graph.now w q) n c.loop-var.var c.loop-var.sets.after
          (λ w q live. let l = after-within c.args.graph.now c.is_flow.ensures.0 c.is_flow.ensures.1 w q live in
          omega arith) c.loop-var.invariant.after v p);
    }
