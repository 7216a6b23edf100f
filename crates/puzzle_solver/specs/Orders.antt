-- The order in which the variables of a board are spilled.
use Rattle.std.specs.Prelude.{ℕ, ◌≡◌, ◌<◌, ◌≤◌, ◌⊎◌, List, length, map, Option, Some, None}
use Rattle.std.specs.List.{AllAdjacentBelow}
use Rattle.std.specs.List.Sorted.{IsPermutation}
use Rattle.std.specs.declared.cmp.Reverse.{Reverse}
use Rattle.puzzle_solver.specs.declared.order.Candidate.{Candidate}

-- the first distance is further than the second; that of a variable without a next use is further than every number
abbrev pub IsFurther : Option ℕ → Option ℕ → Type 0
IsFurther None None = ⊥
IsFurther None (Some n) = Unit {0}
IsFurther (Some m) None = ⊥
IsFurther (Some m) (Some n) = n < m

-- the first is spilled before the second: it is further, or as far and no greater
abbrev pub SpillsBefore : Candidate → Candidate → Type 0
SpillsBefore c d = IsFurther c.distance d.distance ⊎ ((c.distance ≡ d.distance) × (c.variable ≤ d.variable))

-- these are the variables of the candidates in spill order
pub record IsSpillOrder (candidates : List Candidate) (order : List ℕ) : Type 0 where
  pub sorted : List Candidate
  pub permuted : IsPermutation candidates sorted
  pub ordered : AllAdjacentBelow SpillsBefore sorted (length sorted)
  pub variables : order ≡ map (λ c. c.variable) sorted

-- what candidates are sorted by, in ascending order
abbrev pub reversed : Option ℕ → Option (Reverse ℕ)
reversed None = None
reversed (Some n) = Some (record { 0 = n })

abbrev pub sort_key : Candidate → Option (Reverse ℕ) × ℕ
sort_key c = (reversed c.distance, c.variable)
