-- What holds of the registers and slots of every legal map.
use Rattle.std.specs.Prelude.{◌≡◌, ◌≢◌, ◌≤◌, ◌⊎◌, ◌%◌, ⊤, ℕ, List, length, slice_get, Option, Some, IsTrue, false}
use Rattle.std.specs.List.{AllByRecursion}
use Rattle.pcc_base.specs.declared.run.Width.{Width}
use Rattle.ia32_insn.specs.declared.insn.Insn.{Insn}
use Rattle.ia32_insn.specs.Places.{Place, InWord, InByte, InSlot}
use Rattle.flow_graph.specs.declared.op.Op.{Op}
use Rattle.flow_graph.specs.Graphs.{Flow, IsDistinct, IsFlow, IsPlaced}
use Rattle.flow_graph.specs.Liveness.{BeginsWith, IsSuccessor}
use Rattle.puzzle_board.specs.declared.piece.Spot.{Spot}
use Rattle.puzzle_board.specs.declared.place.Place.TheVariants.{Cells}
use Rattle.puzzle_board.specs.Areas.{is_of_width, share_column}
use Rattle.puzzle_board.specs.Places.{PlaceMap}
use Rattle.allocator.specs.PointMaps.{IsLegalMap}
use Rattle.ia32_rows.specs.Laws.{ArePlacesApart}
use Rattle.ia32_rows.specs.Rows.{AreApart}
use Rattle.ia32_laws.specs.Supports.{AreArraysIn, AreMoves, HoldsWidth, Supports, SupportsPoint}
use Rattle.ia32_placements.specs.Placed.{arrays_in, placement_in}
use Rattle.ia32_placements.specs.Standings.{standing_after, standing_before, standing_of}

-- ---- registers

-- Columns of two areas, or two columns of one, are registers without a cell in common.
abbrev pub SpotsAreApart : Type 0
SpotsAreApart =
    (s t : Spot) (one two : Place) → (s.area ≢ t.area) ⊎ (share_column s.columns t.columns ≡ false)
    → standing_of (Cells s) ≡ Some one → standing_of (Cells t) ≡ Some two → ArePlacesApart one two

-- As many columns as a variable is wide are a register for it.
abbrev pub SpotsHoldWidths : Type 0
SpotsHoldWidths =
    (s : Spot) (width : Width) (place : Place) → IsTrue (is_of_width width s.columns)
    → standing_of (Cells s) ≡ Some place → HoldsWidth (Some width) place

-- ---- legal maps

-- Each point has what the code of its op asks of a placement.
abbrev pub LegalPointsSupport : Type 0
LegalPointsSupport =
    (flow : Flow) (homes : List ℕ) (places : PlaceMap) (between : ℕ → ℕ → List Insn) (point : ℕ) (o : Op)
    → IsFlow flow homes → IsLegalMap flow places → IsPlaced flow point → slice_get flow.ops point ≡ Some o
    → SupportsPoint flow (placement_in flow places between) point o

-- What stands before a point that follows another stands behind that one too.
abbrev pub LegalEdgesHold : Type 0
LegalEdgesHold =
    (flow : Flow) (homes : List ℕ) (places : PlaceMap) (point next v : ℕ) (place : Place) → IsFlow flow homes
    → IsLegalMap flow places → IsSuccessor flow point next → standing_before places next v ≡ Some place
    → (old : Place) × (standing_after places point v ≡ Some old)

-- Nothing stands before the first point.
abbrev pub NothingStandsFirst : Type 0
NothingStandsFirst =
    (flow : Flow) (homes : List ℕ) (places : PlaceMap) (point v : ℕ) (place : Place) → IsFlow flow homes
    → IsLegalMap flow places → BeginsWith flow 0 point → standing_before places point v ≡ Some place → ⊥

-- The frame is of words, four of them for the caller's registers and for scratch, and the arrays are apart in it.
abbrev pub LegalFramesHold : Type 0
LegalFramesHold =
    (flow : Flow) (places : PlaceMap) → IsLegalMap flow places
    → (16 ≤ places.frame) × (places.frame % 4 ≡ 0) × AreArraysIn flow.arrays places.frame (arrays_in flow places)

-- The instructions between any two points of which one follows the other bring each variable to its new place.
abbrev pub AllMove : Flow → PlaceMap → (ℕ → ℕ → List Insn) → Type 0
AllMove flow places between =
    (point next : ℕ) → IsSuccessor flow point next → AreMoves flow (placement_in flow places between) point next

-- The graph can have code over every map that is legal for it, with instructions that move variables between points.
abbrev pub LegalMapsSupport : Type 0
LegalMapsSupport =
    (flow : Flow) (homes : List ℕ) (places : PlaceMap) (between : ℕ → ℕ → List Insn) → IsFlow flow homes
    → IsLegalMap flow places → AllMove flow places between → Supports flow (placement_in flow places between)

-- ---- slots

-- the variable stands in this slot before a point of a block, or after one
abbrev pub IsSlotOf : Flow → PlaceMap → ℕ → ℕ → Type 0
IsSlotOf flow places v slot =
    (point : ℕ) × IsPlaced flow point
    × ((standing_before places point v ≡ Some (InSlot slot)) ⊎ (standing_after places point v ≡ Some (InSlot slot)))

-- A variable has one slot at most, and the slots of two variables have no byte in common, at whichever points they
-- stand there.
abbrev pub SlotsAreOwn : Type 0
SlotsAreOwn =
    (flow : Flow) (homes : List ℕ) (places : PlaceMap) → IsFlow flow homes → IsLegalMap flow places
    → ((v slot other : ℕ) → IsSlotOf flow places v slot → IsSlotOf flow places v other → slot ≡ other)
    × ((v w slot other : ℕ) → v ≢ w → IsSlotOf flow places v slot → IsSlotOf flow places w other
    → AreApart slot other)

-- ---- how many

-- the place is a register, or a byte of one
abbrev pub IsRegister : Place → Type 0
IsRegister (InWord r) = ⊤
IsRegister (InByte r) = ⊤
IsRegister (InSlot slot) = ⊥

-- the variable has such a place
abbrev pub InRegister : (ℕ → Option Place) → ℕ → Type 0
InRegister place_of v = (place : Place) × (place_of v ≡ Some place) × IsRegister place

-- the variable stands elsewhere before the next point than behind the first
abbrev pub IsMoved : PlaceMap → ℕ → ℕ → ℕ → Type 0
IsMoved places point next v =
    (old new : Place) × (standing_after places point v ≡ Some old) × (standing_before places next v ≡ Some new)
    × (old ≢ new)

-- At most eight variables stand in registers before a point, and as many after it.
abbrev pub RegistersAreFew : Type 0
RegistersAreFew =
    (flow : Flow) (homes : List ℕ) (places : PlaceMap) (point : ℕ) (vs : List ℕ) → IsFlow flow homes
    → IsLegalMap flow places → IsPlaced flow point → IsDistinct vs
    → (AllByRecursion (InRegister (standing_before places point)) vs → length vs ≤ 8)
    × (AllByRecursion (InRegister (standing_after places point)) vs → length vs ≤ 8)

-- From a point to one that follows it at most sixteen variables move: each has one slot at most, so it stands in a
-- register on one of the two sides.
abbrev pub MovesAreFew : Type 0
MovesAreFew =
    (flow : Flow) (homes : List ℕ) (places : PlaceMap) (point next : ℕ) (vs : List ℕ) → IsFlow flow homes
    → IsLegalMap flow places → IsSuccessor flow point next → IsDistinct vs
    → AllByRecursion (IsMoved places point next) vs → length vs ≤ 16
