-- Distances as a contract sees them: for each point the variables that have one there, with it.
use Rattle.std.specs.Prelude.{ℕ, ◌≡◌, ◌<◌, ◌↔◌, List, [], ◌∷◌, Option, Some, None, cond, eqb, slice_get}
use Rattle.flow_graph.specs.Graphs.{Flow}
use Rattle.flow_graph.specs.Liveness.{AfterUse, IsDistance, IsUsedAt}
use Rattle.flow_liveness.specs.Lists.{list_at}

-- the distance of a variable among entries of a variable and its distance
abbrev pub distance_in : List (ℕ × ℕ) → ℕ → Option ℕ
distance_in [] v = None
distance_in (entry ∷ entries) v = cond (eqb entry.0 v) (Some entry.1) (distance_in entries v)

-- the distance of a variable at a point, if it has one
abbrev pub distance_at : List (List (ℕ × ℕ)) → ℕ → ℕ → Option ℕ
distance_at lists point v = distance_in (list_at lists point) v

-- each variable is greater than those before it
abbrev pub Rises : List (ℕ × ℕ) → Type 0
Rises entries = (i j : ℕ) (e f : ℕ × ℕ) → i < j → slice_get entries i ≡ Some e → slice_get entries j ≡ Some f
    → e.0 < f.0

-- The distances at each point of a graph are those of its paths: a variable has none exactly where no path from the
-- point reaches a use.
pub record AreDistances (flow : Flow) (lists : List (List (ℕ × ℕ))) : Type 0 where
  pub some : (point v n : ℕ) → (distance_at lists point v ≡ Some n) ↔ IsDistance flow v point n
  pub none : (point v : ℕ) → (distance_at lists point v ≡ None)
      ↔ ((IsUsedAt flow v point → ⊥) × ((n : ℕ) → AfterUse flow v n point → ⊥))
