use Rattle.std.proofs.Common.{None, [], length, replicate, ap, arith, ◌∙◌}
use Rattle.std.proofs.lemmas.List.{length-replicate}
use Rattle.flow_graph.specs.Liveness.{IsDistance}
use Rattle.flow_liveness.proofs.Distancing.{are-distances}
use Rattle.flow_liveness.proofs.Variables.{distance-within, earlier-next, earlier-none, vars-end, vars-more}
use Rattle.flow_liveness.proofs.Variables.{vars-smaller, vars-start}
use Rattle.flow_liveness.proofs.distances.next_use.Goals as goal

pub loop-var-init : goal.loop-var-init
loop-var-init c =
    let n = length c.args.graph.now.ops in
    record {
      listed = rw (c.in_ok-distances.ensures, c.points-2.ensures) (vars-start (λ x. x.0)
          (λ v x p. IsDistance c.args.graph.now v p x.1) (replicate n []));
      used = rw c.in_ok-search.ensures.used (earlier-none c.points.result 0);
      passed = rw c.in_ok-search.ensures.passed (earlier-none c.points.result 0);
      used_points = ap length c.in_ok-search.ensures.used ∙ length-replicate c.points.result None ∙ c.points.ensures;
      passed_points = ap length c.in_ok-search.ensures.passed ∙ length-replicate c.points.result None
          ∙ c.points.ensures;
    }

pub add_all-requires-clause-smaller : goal.add_all-requires-clause-smaller
add_all-requires-clause-smaller c =
    vars-smaller (λ x. x.0) (λ v x p. IsDistance c.args.graph.now v p x.1) (length c.args.graph.now.ops) c.loop-var.var
    c.loop-var.distances c.loop-var.invariant.listed

pub loop-var-preserved : goal.loop-var-preserved
loop-var-preserved c = record {
  listed = vars-more (λ x. x.0) (λ v x p. IsDistance c.args.graph.now v p x.1) c.loop-var.var _ _ _
      c.loop-var.invariant.listed c.in_ok-add_all.ensures;
  used = earlier-next c.run.new.search.used c.loop-var.var c.in_ok-run.ensures.used;
  passed = earlier-next c.run.new.search.passed c.loop-var.var c.in_ok-run.ensures.passed;
  used_points = c.in_ok-run.ensures.used_points;
  passed_points = c.in_ok-run.ensures.passed_points;
}

pub returns : goal.returns
returns c =
    are-distances c.args.graph.now c.loop-var.distances c.rise.ensures
    (λ p v n. vars-end (λ x. x.0) (λ w x q. IsDistance c.args.graph.now w q x.1) (length c.args.graph.now.ops)
    c.loop-var.var c.loop-var.distances
    (λ x q d. let l = distance-within c.args.graph.now c.is_flow.ensures.0 c.is_flow.ensures.1 x.0 q x.1 d in
    omega arith) c.loop-var.invariant.listed (v, n) p)
