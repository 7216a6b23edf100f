-- What a search back from the uses of a variable has found, on the way and in the end.
use Rattle.std.specs.Prelude.{ℕ, suc, ◌≡◌, ◌<◌, ◌≤◌, ◌+◌, ◌⊎◌, ◌↔◌, List, [], ◌∷◌, length, slice_get}
use Rattle.std.specs.Prelude.{Option, Some, None, cond, eqb}
use Rattle.flow_graph.specs.Graphs.{Flow}
use Rattle.flow_graph.specs.Liveness.{IsDefinedAt, IsDistance, IsLiveAfter, IsSuccessor, IsUsedAt}
use Rattle.flow_liveness.specs.Lists.{Has}
use Rattle.flow_liveness.specs.SearchBack.{IsMarked, IsNext}

-- Each point with the distance of the variable there, none twice, and each point after which the variable is live,
-- none twice.
pub record IsReach (flow : Flow) (v : ℕ) (nexts : List (ℕ × ℕ)) (after : List ℕ) : Type 0 where
  pub distances : (point n : ℕ) → Has nexts (point, n) ↔ IsDistance flow v point n
  pub nexts_once : (i j point n m : ℕ) → slice_get nexts i ≡ Some (point, n) → slice_get nexts j ≡ Some (point, m)
      → i ≡ j
  pub live : (point : ℕ) → Has after point ↔ IsLiveAfter flow v point
  pub after_once : (i j point : ℕ) → slice_get after i ≡ Some point → slice_get after j ≡ Some point → i ≡ j
  -- a point after which the variable is live has a distance
  pub reached : (point : ℕ) → IsLiveAfter flow v point → (n : ℕ) × Has nexts (point, n)

-- no mark is of a later variable
abbrev pub NoneLater : List (Option ℕ) → ℕ → Type 0
NoneLater marks v = (point w : ℕ) → IsMarked marks w point → w ≤ v

-- marks are of earlier variables alone
abbrev pub AllEarlier : List (Option ℕ) → ℕ → Type 0
AllEarlier marks v = (point w : ℕ) → IsMarked marks w point → w < v

-- how many points are not marked with the variable
abbrev pub unmarked : ℕ → List (Option ℕ) → ℕ
unmarked v [] = 0
unmarked v (None ∷ marks) = suc (unmarked v marks)
unmarked v (Some w ∷ marks) = cond (eqb w v) (unmarked v marks) (suc (unmarked v marks))

-- the marked points are found, at distance 0 and none twice, and are those that are told
pub record IsStart (v : ℕ) (Uses : ℕ → Type 0) (nexts : List (ℕ × ℕ)) (used : List (Option ℕ)) : Type 0 where
  pub marked : (point : ℕ) → IsMarked used v point ↔ Uses point
  pub found : (point : ℕ) → Uses point → Has nexts (point, 0)
  pub zero_each : (i point n : ℕ) → slice_get nexts i ≡ Some (point, n) → (n ≡ 0) × Uses point
  pub once : (i j point n m : ℕ) → slice_get nexts i ≡ Some (point, n) → slice_get nexts j ≡ Some (point, m) → i ≡ j
  pub none_later : NoneLater used v

-- the variable is live after the point, which is found, no further than so many steps from a use
abbrev pub IsPassed : List (ℕ × ℕ) → List ℕ → ℕ → ℕ → Type 0
IsPassed nexts after level point = Has after point × (n : ℕ) × (n ≤ level) × Has nexts (point, n)

-- a point is done with: it is no use and defines the variable, or all that lead to it are found
abbrev pub IsDone : Flow → ℕ → List (ℕ × ℕ) → List ℕ → ℕ → ℕ → Type 0
IsDone flow v nexts after point n =
    ((0 < n) × IsDefinedAt flow v point)
    ⊎ ((before : ℕ) → IsSuccessor flow before point → IsPassed nexts after (suc n) before)

-- The search on its way. The points found before place `head` are done with; the others wait, the nearest first, and
-- none is further than one step more than the one at `head`.
pub record IsSearch (flow : Flow) (v head : ℕ) (nexts : List (ℕ × ℕ)) (after : List ℕ) (used passed : List (Option ℕ)) :
    Type 0 where
  pub used_points : length used ≡ length flow.ops
  pub passed_points : length passed ≡ length flow.ops
  pub is_used : (point : ℕ) → IsMarked used v point ↔ IsUsedAt flow v point
  pub is_passed : (point : ℕ) → IsMarked passed v point ↔ Has after point
  pub used_later : NoneLater used v
  pub passed_later : NoneLater passed v
  pub uses : (point : ℕ) → IsUsedAt flow v point → Has nexts (point, 0)
  pub sound : (i point n : ℕ) → slice_get nexts i ≡ Some (point, n) → IsNext flow v point n
  pub further : (i point n : ℕ) → slice_get nexts i ≡ Some (point, suc n) → Has after point
  pub live : (point : ℕ) → Has after point → IsLiveAfter flow v point
  pub reached : (point : ℕ) → Has after point → (n : ℕ) × Has nexts (point, n)
  pub done : (i point n : ℕ) → i < head → slice_get nexts i ≡ Some (point, n) → IsDone flow v nexts after point n
  pub in_order : (i j : ℕ) (e f : ℕ × ℕ) → i ≤ j → slice_get nexts i ≡ Some e → slice_get nexts j ≡ Some f → e.1 ≤ f.1
  pub near : (i : ℕ) (e f : ℕ × ℕ) → slice_get nexts head ≡ Some e → slice_get nexts i ≡ Some f → f.1 ≤ suc e.1
  pub nexts_once : (i j point n m : ℕ) → slice_get nexts i ≡ Some (point, n) → slice_get nexts j ≡ Some (point, m)
      → i ≡ j
  pub after_once : (i j point : ℕ) → slice_get after i ≡ Some point → slice_get after j ≡ Some point → i ≡ j
  pub few_steps : (i point n : ℕ) → slice_get nexts i ≡ Some (point, n) → n ≤ length after
  pub counted : length after + unmarked v passed ≡ length flow.ops
