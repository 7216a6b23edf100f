-- What an allocation promises of the map that it makes.
use Rattle.std.specs.Prelude.{ℕ, ◌≡◌, [], length, Some, slice_get}
use Rattle.flow_graph.specs.declared.op.Op.{Op}
use Rattle.flow_graph.specs.Graphs.{Flow, IsPlaced}
use Rattle.flow_graph.specs.Liveness.{BeginsWith, IsLiveBefore}
use Rattle.puzzle_board.specs.Places.{PlaceMap, entries_at, spilled_at}
use Rattle.allocator.specs.PointMaps.{FrameUse, IsLegalPoint}
use Rattle.allocator.specs.SplitForms.{Form}
use Rattle.allocator.specs.Spills.{IsSpilledAt}

-- nothing is live before the first point of the function
abbrev pub NothingFirst : Flow → Type 0
NothingFirst flow = (v point : ℕ) → BeginsWith flow 0 point → IsLiveBefore flow v point → ⊥

-- What holds of the map of a form: it has lists for each point and a slot or none for each variable; each point of a
-- block is legal, and spills the shortest prefix of its spill order; a point of no block has no places and spills
-- nothing; and the frame is used by its rule, with slots for the spilled variables and for no others.
pub record IsAllocation (form : Form) (places : PlaceMap) : Type 0 where
  pub points : length places.before ≡ length form.graph.ops
  pub variables : length places.slots ≡ length form.graph.widths
  pub legal : (point : ℕ) (op : Op) → IsPlaced form.graph point → slice_get form.graph.ops point ≡ Some op
      → IsLegalPoint form.graph form.lives places point op
  pub shortest : (point : ℕ) (op : Op) → IsPlaced form.graph point → slice_get form.graph.ops point ≡ Some op
      → IsSpilledAt form.graph form.lives point op (spilled_at places point)
  pub removed : (point : ℕ) → (IsPlaced form.graph point → ⊥)
      → (entries_at places.before point ≡ []) × (entries_at places.after point ≡ []) × (spilled_at places point ≡ [])
  pub frame : FrameUse form.graph places
