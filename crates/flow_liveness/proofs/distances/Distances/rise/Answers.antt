use Rattle.std.proofs.Common.{ℕ, List, subst}
use Rattle.flow_liveness.specs.Distances.{Rises}
use Rattle.flow_liveness.specs.Lists.{list_at}
use Rattle.flow_liveness.proofs.distances.Distances.rise.Goals as goal

pub returns : goal.returns
returns c = subst (λ (ls : List (List (ℕ × ℕ))). (point : ℕ) → Rises (list_at ls point)) c.self.view_is c.self.invariant
