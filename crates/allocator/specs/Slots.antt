-- Slots of variables, given one after another from below the frame's first four words.
use Rattle.std.specs.Prelude.{ℕ, ℤ, ◌≡◌, ◌≢◌, ◌<◌, ◌+◌, ◌*◌, ◌⊎◌, pos, neg_ℤ, List, ◌++◌, length, count_by}
use Rattle.std.specs.Prelude.{is_some, Option, Some, None, slice_index_or}
use Rattle.flow_graph.specs.Graphs.{IsIn}
use Rattle.puzzle_board.specs.Places.{PlaceMap, spilled_at}

-- the slot of a variable, by its offset from EBP, if it has one
abbrev pub slot_in : List (Option ℤ) → ℕ → Option ℤ
slot_in slots v = slice_index_or slots v None

abbrev pub HasSlot : List (Option ℤ) → ℕ → Type 0
HasSlot slots v = (offset : ℤ) × (slot_in slots v ≡ Some offset)

-- how many have one
abbrev pub slots_given : List (Option ℤ) → ℕ
slots_given slots = count_by is_some slots

-- the offset of slot number k
abbrev pub offset_of : ℕ → ℤ
offset_of k = neg_ℤ (pos (20 + 4 * k))

-- the slots are numbered from 0 without a gap, and no two variables have the same
pub record AreSlots (slots : List (Option ℤ)) : Type 0 where
  pub within : (v : ℕ) (offset : ℤ) → slot_in slots v ≡ Some offset
      → (k : ℕ) × (k < slots_given slots) × (offset ≡ offset_of k)
  pub apart : (v w : ℕ) (offset : ℤ) → slot_in slots v ≡ Some offset → slot_in slots w ≡ Some offset → v ≡ w

-- these variables have slots now, besides those that had theirs, which stay
pub record AreGiven (vs : List ℕ) (old new : List (Option ℤ)) : Type 0 where
  pub many : length new ≡ length old
  pub slots : AreSlots new
  pub kept : (v : ℕ) (offset : ℤ) → slot_in old v ≡ Some offset → slot_in new v ≡ Some offset
  pub given : (v : ℕ) → IsIn v vs → HasSlot new v
  pub only : (v : ℕ) → HasSlot new v → HasSlot old v ⊎ IsIn v vs

-- these variables are spilled at the point now, behind those that were
pub record AreSpilled (point : ℕ) (vs : List ℕ) (old new : PlaceMap) : Type 0 where
  pub before : new.before ≡ old.before
  pub after : new.after ≡ old.after
  pub many : length new.spilled ≡ length old.spilled
  pub here : spilled_at new point ≡ spilled_at old point ++ vs
  pub others : (q : ℕ) → q ≢ point → spilled_at new q ≡ spilled_at old q
