use Rattle.std.proofs.Common.{ℕ, List, subst, arith, ◌∙◌}
use Rattle.flow_graph.specs.Liveness.{IsUsedAt}
use Rattle.flow_liveness.specs.Lists.{Has}
use Rattle.flow_liveness.proofs.Placed.{placed-within}
use Rattle.flow_liveness.proofs.Reaching.{search-end}
use Rattle.flow_liveness.proofs.Searching.{search-start}
use Rattle.flow_liveness.proofs.Starting.{start-same}
use Rattle.flow_liveness.proofs.search.run.Goals as goal

pub start-requires-clause-points : goal.start-requires-clause-points
start-requires-clause-points c = λ p has.
    let used : IsUsedAt c.args.graph.now c.args.var p =
    (c.requires.uses.used p c.args.var).0 (subst (λ (xs : List ℕ). Has xs p) c.at.ensures has) in
    rw c.requires.used_points (placed-within c.args.graph.now c.is_flow.ensures.0 c.is_flow.ensures.1 p used.0)

pub loop-head-init : goal.loop-head-init
loop-head-init c =
    search-start c.args.graph.now c.args.var _ _ _ _
    (start-same c.args.var (Has c.at.result.now) (λ p. IsUsedAt c.args.graph.now c.args.var p) _ _
    (λ p. rw c.at.ensures (c.requires.uses.used p c.args.var)) c.in_ok-start.ensures.start)
    c.in_ok-start.ensures.after (rw c.in_ok-start.ensures.passed c.requires.passed)
    (c.in_ok-start.ensures.used ∙ c.requires.used_points)
    (rw c.in_ok-start.ensures.passed c.requires.passed_points)

pub returns-clause-reach : goal.returns-clause-reach
returns-clause-reach c =
    search-end c.args.graph.now c.args.var c.loop-head.head _ _ _ _ c.loop-head.invariant (omega arith)
