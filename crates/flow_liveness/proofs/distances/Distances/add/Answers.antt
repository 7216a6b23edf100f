use Rattle.std.proofs.Common.{ℕ, ◌<◌, List, length, sym, subst}
use Rattle.flow_liveness.specs.Lists.{Has, list_at}
use Rattle.flow_liveness.proofs.Distancing.{rises-put}
use Rattle.flow_liveness.proofs.distances.Distances.add.Goals as goal

pub invariant_of-self : goal.invariant_of-self
invariant_of-self c =
    rises-put c.push.result c.self.inside.lists c.push.new.self c.args.point (c.args.var, c.args.distance)
    (subst (λ (ls : List (List (ℕ × ℕ))). c.args.point < length ls) (sym c.self.view_is) c.requires.in_range)
    (subst (λ (ls : List (List (ℕ × ℕ))). (v n : ℕ) → Has (list_at ls c.args.point) (v, n) → v < c.args.var)
    (sym c.self.view_is) c.requires.smaller)
    c.self.invariant c.push.ensures
