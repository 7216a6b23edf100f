-- Labels and points among the items of a graph: each stands once.
use Rattle.std.specs.Prelude.{◌≡◌, ◌↔◌, ℕ, List, slice_get, Some}
use Rattle.ia32_insn.specs.declared.item.Item.{Item}
use Rattle.ia32_insn.specs.declared.item.Item.TheVariants as item
use Rattle.flow_graph.specs.Graphs.{Flow, IsFlow, IsPlaced}
use Rattle.ia32_rows.specs.Placements.{Placement}
use Rattle.ia32_rows.specs.Rows.{selected}

-- of a number such an item stands at one place at most
abbrev pub StandsOnce : (ℕ → Item) → List Item → Type 0
StandsOnce mark items =
    (i j n : ℕ) → slice_get items i ≡ Some (mark n) → slice_get items j ≡ Some (mark n) → i ≡ j

-- Over any placement no label stands twice: neither that of a block, nor that of a loop.
abbrev pub LabelsStandOnce : Type 0
LabelsStandOnce =
    (flow : Flow) (homes : List ℕ) (placement : Placement) → IsFlow flow homes
    → StandsOnce item.Label (selected flow placement)

abbrev pub PointsStandOnce : Type 0
PointsStandOnce =
    (flow : Flow) (homes : List ℕ) (placement : Placement) → IsFlow flow homes
    → StandsOnce item.Point (selected flow placement)

-- a point stands among the items exactly where it stands in a block
abbrev pub PointsArePlaced : Type 0
PointsArePlaced =
    (flow : Flow) (placement : Placement) (p : ℕ)
    → ((j : ℕ) × (slice_get (selected flow placement) j ≡ Some (item.Point p))) ↔ IsPlaced flow p
