-- How far an allocation has come.
use Rattle.std.specs.Prelude.{ℕ, ◌≡◌, ◌<◌, ◌≤◌, ◌↔◌, [], length, Some, slice_get}
use Rattle.flow_graph.specs.declared.op.Op.{Op}
use Rattle.flow_graph.specs.Graphs.{IsIn, IsPlaced}
use Rattle.puzzle_board.specs.Places.{PlaceMap, entries_at, spilled_at}
use Rattle.allocator.specs.PointMaps.{IsLegalPoint}
use Rattle.allocator.specs.SplitForms.{Form}
use Rattle.allocator.specs.Slots.{AreSlots, HasSlot}
use Rattle.allocator.specs.Spills.{IsSpilledAt}

-- a point without places, at which nothing is spilled
pub record IsEmptyAt (places : PlaceMap) (point : ℕ) : Type 0 where
  pub before : entries_at places.before point ≡ []
  pub after : entries_at places.after point ≡ []
  pub spilled : spilled_at places point ≡ []

-- the first n points are done, and no other has anything
pub record IsDoneTo (form : Form) (n : ℕ) (places : PlaceMap) : Type 0 where
  pub points : length places.before ≡ length form.graph.ops
  pub afters : length places.after ≡ length form.graph.ops
  pub spills : length places.spilled ≡ length form.graph.ops
  pub variables : length places.slots ≡ length form.graph.widths
  pub legal : (point : ℕ) (op : Op) → point < n → IsPlaced form.graph point → slice_get form.graph.ops point ≡ Some op
      → IsLegalPoint form.graph form.lives places point op
  pub shortest : (point : ℕ) (op : Op) → point < n → IsPlaced form.graph point
      → slice_get form.graph.ops point ≡ Some op
      → IsSpilledAt form.graph form.lives point op (spilled_at places point)
  pub removed : (point : ℕ) → (IsPlaced form.graph point → ⊥) → IsEmptyAt places point
  pub fresh : (point : ℕ) → n ≤ point → IsEmptyAt places point
  pub slots : AreSlots places.slots
  pub slotted : (v : ℕ) → HasSlot places.slots v
      ↔ ((point : ℕ) × IsPlaced form.graph point × IsIn v (spilled_at places point))
