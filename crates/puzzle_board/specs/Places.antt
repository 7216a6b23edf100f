-- Where variables are before and after each point, as a contract sees it, and what each call leaves.
use Rattle.std.specs.Prelude.{ℕ, ℤ, ◌≡◌, ◌<◌, ◌≤◌, ◌==◌, Bool, false}
use Rattle.std.specs.Prelude.{if◌then◌else◌, nat_lt, List, [], ◌∷◌, ◌++◌, length}
use Rattle.std.specs.Prelude.{Option, Some, None, replicate, slice_get, slice_index_or, slice_set}
use Rattle.std.specs.List.{AllByRecursion}
use Rattle.puzzle_board.specs.declared.place.Place.{Place}

-- ---- one side of a point

-- a variable and its place
abbrev pub Entry : Type 0
Entry = ℕ × Place

-- the variables ascend
abbrev pub IsRising : List Entry → Type 0
IsRising [] = Unit {0}
IsRising (e ∷ entries) = AllByRecursion (λ f. e.0 < f.0) entries × IsRising entries

-- the place of a variable, if it has one
abbrev pub place_in : List Entry → ℕ → Option Place
place_in [] variable = None
place_in (e ∷ entries) variable = if e.0 == variable then Some e.1 else place_in entries variable

-- the variable has this place, and every other the one that it had
abbrev pub with_place : List Entry → ℕ → Place → List Entry
with_place [] variable place = (variable, place) ∷ []
with_place (e ∷ entries) variable place =
    if e.0 == variable then (variable, place) ∷ entries
    else (if nat_lt variable e.0 then (variable, place) ∷ e ∷ entries else e ∷ with_place entries variable place)

-- the variables before number i are smaller than this one, and those from it on are no smaller
pub record IsPosition (entries : List Entry) (variable i : ℕ) : Type 0 where
  pub within : i ≤ length entries
  pub below : (k : ℕ) (e : Entry) → slice_get entries k ≡ Some e → k < i → e.0 < variable
  pub above : (k : ℕ) (e : Entry) → slice_get entries k ≡ Some e → i ≤ k → variable ≤ e.0

-- the entry is there, and the variable's
abbrev pub is_entry_of : Option Entry → ℕ → Bool
is_entry_of None variable = false
is_entry_of (Some e) variable = e.0 == variable

-- ---- all points

-- for each point the places of variables before it and after it, and the variables that are spilled there, in order;
-- for each variable its slot's offset from EBP, if it has a slot; and the bytes of the frame
pub record PlaceMap : Type 0 where
  pub before : List (List Entry)
  pub after : List (List Entry)
  pub spilled : List (List ℕ)
  pub slots : List (Option ℤ)
  pub frame : ℕ

-- each point has all three lists
pub record IsPlaceMap (map : PlaceMap) : Type 0 where
  pub same_after : length map.after ≡ length map.before
  pub same_spilled : length map.spilled ≡ length map.before

-- no places, no slots and nothing spilled, at so many points of so many variables
abbrev pub no_places : ℕ → ℕ → ℕ → PlaceMap
no_places points variables frame = record {
  before = replicate points [];
  after = replicate points [];
  spilled = replicate points [];
  slots = replicate variables None;
  frame = frame;
}

-- the entries of a point
abbrev pub entries_at : List (List Entry) → ℕ → List Entry
entries_at lists point = slice_index_or lists point []

-- the variables spilled at a point
abbrev pub spilled_at : PlaceMap → ℕ → List ℕ
spilled_at map point = slice_index_or map.spilled point []

abbrev pub with_place_at : List (List Entry) → ℕ → ℕ → Place → List (List Entry)
with_place_at lists point variable place = slice_set lists point (with_place (entries_at lists point) variable place)

-- the variable has this place before the point
abbrev pub with_before : PlaceMap → ℕ → ℕ → Place → PlaceMap
with_before map point variable place = record map { before = with_place_at map.before point variable place }

-- and after it
abbrev pub with_after : PlaceMap → ℕ → ℕ → Place → PlaceMap
with_after map point variable place = record map { after = with_place_at map.after point variable place }

-- the variable comes last among those spilled at the point
abbrev pub with_spilled : PlaceMap → ℕ → ℕ → PlaceMap
with_spilled map point variable =
    record map { spilled = slice_set map.spilled point (spilled_at map point ++ variable ∷ []) }

-- the variable has this slot
abbrev pub with_slot : PlaceMap → ℕ → ℤ → PlaceMap
with_slot map variable offset = record map { slots = slice_set map.slots variable (Some offset) }

-- the frame has so many bytes
abbrev pub with_frame : PlaceMap → ℕ → PlaceMap
with_frame map frame = record map { frame = frame }
