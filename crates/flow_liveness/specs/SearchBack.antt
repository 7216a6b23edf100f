-- What a search back from the uses of a variable knows of a point that it comes to, and what that changes.
use Rattle.std.specs.Prelude.{ℕ, zero, suc, ◌≡◌, List, [], ◌∷◌, slice_get}
use Rattle.std.specs.Prelude.{Option, Some, ◌++◌, slice_set}
use Rattle.flow_graph.specs.Graphs.{Flow}
use Rattle.flow_graph.specs.Liveness.{AfterUse, IsUsedAt}

-- a path of so many steps leads from the point to a use, and the point uses the variable only if there is no step
abbrev pub IsNext : Flow → ℕ → ℕ → ℕ → Type 0
IsNext flow v point zero = IsUsedAt flow v point
IsNext flow v point (suc n) = (IsUsedAt flow v point → ⊥) × AfterUse flow v (suc n) point

-- the point is marked with the variable
abbrev pub IsMarked : List (Option ℕ) → ℕ → ℕ → Type 0
IsMarked marks v point = slice_get marks point ≡ Some (Some v)

-- What passing a point changes, where a point behind it is so many steps from a use: nothing if it was passed; else it
-- is passed now, and found one step further, if it isn't a use.
pub record Passes (v point steps : ℕ) (nexts : List (ℕ × ℕ)) (after : List ℕ) (used passed : List (Option ℕ))
    (nexts' : List (ℕ × ℕ)) (after' : List ℕ) (used' passed' : List (Option ℕ)) : Type 0 where
  pub same_uses : used' ≡ used
  pub before : IsMarked passed v point → (nexts' ≡ nexts) × (after' ≡ after) × (passed' ≡ passed)
  pub now : (IsMarked passed v point → ⊥)
      → (after' ≡ after ++ point ∷ []) × (passed' ≡ slice_set passed point (Some v))
  pub at_use : (IsMarked passed v point → ⊥) → IsMarked used v point → nexts' ≡ nexts
  pub further : (IsMarked passed v point → ⊥) → (IsMarked used v point → ⊥)
      → nexts' ≡ nexts ++ (point, suc steps) ∷ []
