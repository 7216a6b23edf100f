-- What a contract sees of live sets: two lists of variables for each point.
use Rattle.std.specs.Prelude.{ℕ, ◌≡◌, ◌<◌, ◌↔◌, List, [], ◌∷◌, ◌++◌, length, replicate, slice_set, slice_index_or}
use Rattle.std.specs.List.{AllByRecursion}
use Rattle.flow_graph.specs.Graphs.{Flow, IsIn}
use Rattle.flow_graph.specs.Liveness.{IsLiveAfter, IsLiveBefore}

-- for each point the variables that are live before it, and those that are live after it
pub record Lives : Type 0 where
  pub before : List (List ℕ)
  pub after : List (List ℕ)

-- each variable is greater than those before it
abbrev pub IsAscending : List ℕ → Type 0
IsAscending [] = Unit {0}
IsAscending (v ∷ vs) = AllByRecursion (λ w. v < w) vs × IsAscending vs

-- what live sets always keep: both are of the same points, and each list is in ascending order
pub record IsLives (lives : Lives) : Type 0 where
  pub same_points : length lives.after ≡ length lives.before
  pub before : AllByRecursion IsAscending lives.before
  pub after : AllByRecursion IsAscending lives.after

-- nothing is live at any of so many points
abbrev pub nothing_live : ℕ → Lives
nothing_live points = record { before = replicate points []; after = replicate points [] }

-- the list of a point
abbrev pub at_point : List (List ℕ) → ℕ → List ℕ
at_point lists point = slice_index_or lists point []

-- the lists with one more variable last in that of a point
abbrev pub with_live : List (List ℕ) → ℕ → ℕ → List (List ℕ)
with_live lists point variable = slice_set lists point (at_point lists point ++ variable ∷ [])

-- the lists of each point of a graph have exactly the variables that are live there
pub record AreLive (flow : Flow) (lives : Lives) : Type 0 where
  pub befores : length lives.before ≡ length flow.ops
  pub afters : length lives.after ≡ length flow.ops
  pub before : (point v : ℕ) → point < length flow.ops
      → IsIn v (at_point lives.before point) ↔ IsLiveBefore flow v point
  pub after : (point v : ℕ) → point < length flow.ops
      → IsIn v (at_point lives.after point) ↔ IsLiveAfter flow v point
