-- What an index of a graph has.
use Rattle.std.specs.Prelude.{ℕ, ◌≡◌, ◌↔◌, List, length}
use Rattle.flow_graph.specs.Graphs.{Flow}
use Rattle.flow_graph.specs.Liveness.{IsSuccessor, IsUsedAt}
use Rattle.flow_liveness.specs.Lists.{Has, list_at}

-- for each point those that lead to it
pub record ArePredecessors (flow : Flow) (predecessors : List (List ℕ)) : Type 0 where
  pub points : length predecessors ≡ length flow.ops
  pub leads : (point next : ℕ) → Has (list_at predecessors next) point ↔ IsSuccessor flow point next

-- for each variable the points that use it
pub record AreUses (flow : Flow) (uses : List (List ℕ)) : Type 0 where
  pub variables : length uses ≡ length flow.widths
  pub used : (point v : ℕ) → Has (list_at uses v) point ↔ IsUsedAt flow v point
