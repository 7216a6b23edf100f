-- Maps of a graph: where each variable stands before and after each point, and when such a map is legal.
use Rattle.std.specs.Prelude.{ℕ, ℤ, ◌≡◌, ◌<◌, ◌↔◌, ◌+◌, ◌*◌, ◌-◌, ◌==◌, Bool, true, false, ◌&&◌}
use Rattle.std.specs.Prelude.{if◌then◌else◌, pos, neg_ℤ}
use Rattle.std.specs.Prelude.{List, [], ◌∷◌, ◌++◌, map, take, count_by, is_some, Option, Some}
use Rattle.std.specs.Prelude.{None, slice_get, slice_index_or}
use Rattle.flow_graph.specs.declared.op.Op.{Op}
use Rattle.flow_graph.specs.Graphs.{Flow, IsIn, IsPlaced, has_point}
use Rattle.flow_graph.specs.Liveness.{BeginsWith, IsLiveBefore, defined}
use Rattle.flow_graph.specs.Lives.{AreLive, Lives, at_point}
use Rattle.flow_graph.specs.Sizes.{array_bytes}
use Rattle.puzzle_board.specs.declared.piece.Columns.{Columns}
use Rattle.puzzle_board.specs.declared.piece.Columns.TheVariants.{Low, High, All}
use Rattle.puzzle_board.specs.declared.piece.Kind.{Kind}
use Rattle.puzzle_board.specs.declared.piece.Kind.TheVariants.{X, Y, Z}
use Rattle.puzzle_board.specs.declared.piece.Piece.{Piece}
use Rattle.puzzle_board.specs.declared.piece.Spot.{Spot}
use Rattle.puzzle_board.specs.declared.place.Place.{Place}
use Rattle.puzzle_board.specs.declared.place.Place.TheVariants.{Cells, Slot}
use Rattle.puzzle_board.specs.Placements.{IsLegalPlacement, Standing}
use Rattle.puzzle_board.specs.Places.{PlaceMap, entries_at, place_in, spilled_at}
use Rattle.allocator.specs.PointBoards.{Fixed, areas_of, fixed_result, fixed_use, point_pieces, with_result}
use Rattle.allocator.specs.SplitForms.{FixedOperandsDie}

-- ---- maps

-- where a variable stands before a point, and after it
abbrev pub place_before : PlaceMap → ℕ → ℕ → Option Place
place_before places point v = place_in (entries_at places.before point) v

abbrev pub place_after : PlaceMap → ℕ → ℕ → Option Place
place_after places point v = place_in (entries_at places.after point) v

-- the slot of a variable, by its offset from EBP
abbrev pub slot_of : PlaceMap → ℕ → Option ℤ
slot_of places v = slice_index_or places.slots v None

-- ---- where pieces stand: read off the map

abbrev pub same_columns : Columns → Columns → Bool
same_columns Low Low = true
same_columns Low High = false
same_columns Low All = false
same_columns High Low = false
same_columns High High = true
same_columns High All = false
same_columns All Low = false
same_columns All High = false
same_columns All All = true

abbrev pub same_spot : Spot → Spot → Bool
same_spot s t = s.area == t.area && same_columns s.columns t.columns

abbrev pub cells_of : Option Place → Option Spot
cells_of None = None
cells_of (Some (Cells spot)) = Some spot
cells_of (Some (Slot offset)) = None

abbrev pub both_cells : Option Spot → Option Spot → Option Spot
both_cells None after = None
both_cells (Some spot) None = None
both_cells (Some spot) (Some after) = if same_spot spot after then Some spot else None

-- an X stands where its variable does before the op, a Z where it does after it, and a Y at one spot before and after
abbrev pub spot_on : PlaceMap → ℕ → Kind → ℕ → Option Spot
spot_on places point X v = cells_of (place_before places point v)
spot_on places point Y v = both_cells (cells_of (place_before places point v)) (cells_of (place_after places point v))
spot_on places point Z v = cells_of (place_after places point v)

abbrev pub standing_at : Piece → Option Spot → List Standing
standing_at piece None = []
standing_at piece (Some spot) = record { piece = piece; spot = spot } ∷ []

-- the pieces that stand on the board, each with its spot
abbrev pub standings_of : PlaceMap → ℕ → List Piece → List Standing
standings_of places point [] = []
standings_of places point (piece ∷ pieces) =
    standing_at piece (spot_on places point piece.kind piece.var) ++ standings_of places point pieces

-- the pieces of variables that aren't spilled
abbrev pub unspilled : List ℕ → List Piece → List Piece
unspilled spilled [] = []
unspilled spilled (piece ∷ pieces) =
    if has_point piece.var spilled then unspilled spilled pieces else piece ∷ unspilled spilled pieces

-- ---- legal maps

-- the piece stands in this slot, before the op, after it, or both
abbrev pub InSlot : PlaceMap → ℕ → ℤ → Kind → ℕ → Type 0
InSlot places point offset X v = place_before places point v ≡ Some (Slot offset)
InSlot places point offset Y v =
    (place_before places point v ≡ Some (Slot offset)) × (place_after places point v ≡ Some (Slot offset))
InSlot places point offset Z v = place_after places point v ≡ Some (Slot offset)

-- each piece of a spilled variable stands in the variable's one slot
abbrev pub SpilledInSlots : PlaceMap → ℕ → List Piece → Type 0
SpilledInSlots places point pieces =
    (k : ℕ) (piece : Piece) → slice_get pieces k ≡ Some piece → IsIn piece.var (spilled_at places point)
    → (offset : ℤ) × (slot_of places piece.var ≡ Some offset) × InSlot places point offset piece.kind piece.var

-- A point of a legal map: it lists exactly the variables that are live before the point, and those that are live
-- after it or defined there; fixed pieces stand in their registers, pieces of spilled variables in their slots, and
-- the others have a legal placement on the board.
pub record IsLegalPoint (flow : Flow) (lives : Lives) (places : PlaceMap) (point : ℕ) (op : Op) : Type 0 where
  pub lists_before : map (λ e. e.0) (entries_at places.before point) ≡ at_point lives.before point
  pub lists_after : map (λ e. e.0) (entries_at places.after point)
      ≡ with_result (defined op) (at_point lives.after point)
  pub operand : (fixed : Fixed) → fixed_use op ≡ Some fixed
      → place_before places point fixed.variable ≡ Some (Cells fixed.spot)
  pub result : (fixed : Fixed) → fixed_result op ≡ Some fixed
      → place_after places point fixed.variable ≡ Some (Cells fixed.spot)
  pub spilled : SpilledInSlots places point (point_pieces flow lives point op)
  pub placed : IsLegalPlacement (areas_of op)
      (unspilled (spilled_at places point) (point_pieces flow lives point op))
      (standings_of places point (unspilled (spilled_at places point) (point_pieces flow lives point op)))

-- how many variables have slots
abbrev pub slot_count : PlaceMap → ℕ
slot_count places = count_by is_some places.slots

-- the bytes of frame arrays, each with the word before it
abbrev pub bytes_of_arrays : List (ℕ × ℕ) → ℕ
bytes_of_arrays [] = 0
bytes_of_arrays (array ∷ arrays) = array_bytes array + bytes_of_arrays arrays

-- How the frame below EBP is used: its first four words are the caller's EBX, ESI and EDI and a word for copies;
-- below them are the slots, of four bytes each, one for each variable that is spilled somewhere; and below these the
-- frame arrays.
pub record FrameUse (flow : Flow) (places : PlaceMap) : Type 0 where
  pub slotted : (v : ℕ) → ((offset : ℤ) × (slot_of places v ≡ Some offset))
      ↔ ((point : ℕ) × IsPlaced flow point × IsIn v (spilled_at places point))
  pub frame : places.frame ≡ 16 + 4 * slot_count places + bytes_of_arrays flow.arrays
  pub within : (v : ℕ) (offset : ℤ) → slot_of places v ≡ Some offset
      → (k : ℕ) × (k < slot_count places) × (offset ≡ neg_ℤ (pos (20 + 4 * k)))
  pub apart : (v w : ℕ) (offset : ℤ) → slot_of places v ≡ Some offset → slot_of places w ≡ Some offset → v ≡ w

-- How far below EBP element 0 of a frame array stands: the word before array 0 is the frame's last, and each further
-- array stands directly above the one before it.
abbrev pub array_below : Flow → PlaceMap → ℕ → ℕ
array_below flow places k = places.frame - bytes_of_arrays (take k flow.arrays) - 4

-- A map is legal for a graph where each point of a block is, by the graph's live sets, the frame is used so, fixed
-- operands die, and nothing is live at the first point.
pub record IsLegalMap (flow : Flow) (places : PlaceMap) : Type 0 where
  pub lives : Lives
  pub live : AreLive flow lives
  pub dies : FixedOperandsDie flow
  pub nothing_first : (v point : ℕ) → BeginsWith flow 0 point → IsLiveBefore flow v point → ⊥
  pub points : (point : ℕ) (op : Op) → IsPlaced flow point → slice_get flow.ops point ≡ Some op
      → IsLegalPoint flow lives places point op
  pub frame : FrameUse flow places
