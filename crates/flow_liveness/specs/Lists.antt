-- Lists, one for each of so many places.
use Rattle.std.specs.Prelude.{ℕ, ◌≡◌, ◌⊎◌, ◌↔◌, List, [], ◌∷◌, ◌++◌, length, slice_get, slice_set, slice_index_or}
use Rattle.std.specs.Prelude.{Some}

-- the list of a place
abbrev pub list_at : {X : Type 0} → List (List X) → ℕ → List X
list_at lists place = slice_index_or lists place []

-- the lists with one more entry last in that of a place
abbrev pub with_last : {X : Type 0} → List (List X) → ℕ → X → List (List X)
with_last lists place entry = slice_set lists place (list_at lists place ++ entry ∷ [])

-- the entry is in the list
abbrev pub Has : {X : Type 0} → List X → X → Type 0
Has list entry = (i : ℕ) × (slice_get list i ≡ Some entry)

-- Each list has what it had, and the entries that are told, and no others.
pub record Adds {X : Type 0} (old new : List (List X)) (More : X → ℕ → Type 0) : Type 0 where
  pub as_many : length new ≡ length old
  pub has : (entry : X) (place : ℕ)
      → Has (list_at new place) entry ↔ (Has (list_at old place) entry ⊎ More entry place)
