-- Where the items of a program stand in its text, for any number of functions over any placements.
use Rattle.std.specs.Prelude.{◌≡◌, ◌<◌, ℕ, List, [], ◌∷◌, ◌++◌, length, map, option_map, slice_get, Option, Some}
use Rattle.std.specs.Prelude.{⊤, true, false}
use Rattle.std.specs.List.{AllByRecursion}
use Rattle.ia32_insn.specs.Places.{Place}
use Rattle.ia32_insn.specs.declared.item.Item.{Item}
use Rattle.ia32_insn.specs.declared.item.Item.TheVariants as item
use Rattle.ia32_insn.specs.State as machine
use Rattle.ia32_insn.specs.Items.{text_start}
use Rattle.flow_graph.specs.declared.op.Op.{Op}
use Rattle.flow_graph.specs.declared.op.Op.TheVariants as op
use Rattle.flow_graph.specs.Graphs.{Stands}
use Rattle.flow_graph.specs.Shapes.{Leads, Onward, IntoCall, ToBlock, ToEither, OutOfCall, OutOfProgram, shape}
use Rattle.flow_graph.specs.States as graph
use Rattle.flow_graph.specs.Meaning.{step}
use Rattle.flow_graph.specs.States.{Waiting, entry_of, flow_at, op_at, op_of, point_after}
use Rattle.flow_graph.specs.WellFormed.{IsState}
use Rattle.ia32_rows.specs.Follows.{Follows, is_nop}
use Rattle.ia32_rows.specs.Paths.{IsAt, IsClear}
use Rattle.ia32_rows.specs.Placements.{Code, IsCode, placement_of, point_address}
use Rattle.ia32_rows.specs.Shows.{IsInside, ReturnsTo, Shows, StartReturns, start_of}
use Rattle.ia32_rows.specs.Sites.{ReadyAt, Site, StandsFrom}
use Rattle.ia32_rows.specs.Rows.{before_call, behind_call, entry_label, headers, moves_to, place_after}
use Rattle.ia32_rows.specs.Rows.{place_before}
use Rattle.ia32_rows.specs.Rows.{prologue, row, selected}
use Rattle.ia32_laws.specs.Supports.{IsSupported, site_of}
use Rattle.ia32_laws.specs.KeepsOps.{RowAt}
use Rattle.ia32_laws.specs.CoresOps.{BlockAt}

-- The code of a program over placements that support its graphs: each function's items are those of its graph over its
-- placement.
pub record IsSelected (code : Code) : Type 0 where
  pub supported : IsSupported code
  pub items : (f : ℕ) → f < length code.program.functions
      → slice_get code.items f ≡ Some (selected (flow_at code.program f) (placement_of code f))

-- ---- functions

-- The items of a function stand in the text from its address on.
pub record FunctionStands (code : Code) (f : ℕ) (items : List Item) : Type 0 where
  pub address : ℕ
  pub named : slice_get code.symbols.functions f ≡ Some address
  pub placed : slice_get code.places f ≡ Some (site_of code f).places
  pub stands : StandsFrom (site_of code f) items address

abbrev pub FunctionsStand : Type 0
FunctionsStand =
    (code : Code) (f : ℕ) (items : List Item) → IsCode code → slice_get code.items f ≡ Some items
    → FunctionStands code f items

-- At a function's address its prologue stands, behind it the number of each frame array's elements is set, and then
-- comes the first point of its first block, behind that block's label.
pub record EntryAt (code : Code) (f address point : ℕ) : Type 0 where
  pub more : List Item
  pub stands : StandsFrom (site_of code f)
      (prologue (placement_of code f).frame (placement_of code f).zeroed (entry_label (flow_at code.program f))
      ++ (headers (flow_at code.program f).arrays (placement_of code f).arrays
      ++ (item.Label 0 ∷ item.Point point ∷ more))) address

abbrev pub EntriesStand : Type 0
EntriesStand =
    (code : Code) (f address point : ℕ) → IsSelected code → f < length code.program.functions
    → slice_get code.symbols.functions f ≡ Some address → entry_of code.program f 0 ≡ Some point
    → EntryAt code f address point

-- The start stands where the text begins, whatever the labels and points of a function, and its call returns to its
-- ending.
pub record StartAt (code : Code) (f : ℕ) : Type 0 where
  pub stands : StandsFrom (site_of code f) (start_of code) text_start
  pub return_address : ℕ
  pub returns : StartReturns code return_address

abbrev pub StartsStand : Type 0
StartsStand = (code : Code) (f : ℕ) → IsCode code → StartAt code f

-- ---- points

-- At the address of a point the row of its op stands, and behind it the moves to the next point of the block, and that
-- point, if there is one.
pub record PointAt (code : Code) (f block point : ℕ) (o : Op) : Type 0 where
  pub rest : List Item
  pub stands : StandsFrom (site_of code f) (row (flow_at code.program f) (placement_of code f) point o ++ rest)
      (point_address code f point)
  pub follows : (q : ℕ) → point_after code.program f block point ≡ Some q
      → (more : List Item) × (rest ≡ moves_to (placement_of code f) point (Some q) ++ item.Point q ∷ more)

abbrev pub PointsStand : Type 0
PointsStand =
    (code : Code) (f block point : ℕ) (o : Op) → IsSelected code → f < length code.program.functions
    → Stands (flow_at code.program f) point block → op_of code.program f point ≡ Some o
    → PointAt code f block point o

-- so the row of a state's op is ready, where EIP is at the state's point
abbrev pub RowsStand : Type 0
RowsStand =
    (code : Code) (g : graph.State) (s : machine.State) (o : Op) → IsSelected code → IsState code.program g
    → op_at code.program g ≡ Some o → s.eip ≡ point_address code g.current.function g.point
    → RowAt code g
    (row (flow_at code.program g.current.function) (placement_of code g.current.function) g.point o) s

-- behind the label of each block of the current function stands its first point
abbrev pub LabelsStand : Type 0
LabelsStand =
    (code : Code) (g : graph.State) (block : ℕ) → IsSelected code → IsState code.program g
    → block < length (flow_at code.program g.current.function).blocks → BlockAt code g block

-- no two points of the program, of one function or of two, stand at one address
abbrev pub PointsApart : Type 0
PointsApart =
    (code : Code) (f h block other p q : ℕ) → IsSelected code → f < length code.program.functions
    → h < length code.program.functions → Stands (flow_at code.program f) p block
    → Stands (flow_at code.program h) q other → point_address code f p ≡ point_address code h q → (f ≡ h) × (p ≡ q)

-- at the address of a mark and of a turn a NOP stands
abbrev pub MarksAreNops : Type 0
MarksAreNops =
    (code : Code) (f block point : ℕ) (o : Op) → IsSelected code → f < length code.program.functions
    → Stands (flow_at code.program f) point block → op_of code.program f point ≡ Some o → is_nop (Some o) ≡ true
    → IsAt code.text (point_address code f point) (0x90 ∷ [])

-- and at that of any other op none
abbrev pub OthersAreClear : Type 0
OthersAreClear =
    (code : Code) (f block point : ℕ) (o : Op) → IsSelected code → f < length code.program.functions
    → Stands (flow_at code.program f) point block → op_of code.program f point ≡ Some o → is_nop (Some o) ≡ false
    → IsClear code.text (point_address code f point)

-- ---- calls

-- the places of variables, by where they stand before and after a point of a function
abbrev pub places_before : Code → ℕ → ℕ → List ℕ → List Place
places_before code f point variables = map (place_before (placement_of code f) point) variables

abbrev pub place_behind : Code → ℕ → ℕ → Option ℕ → Option Place
place_behind code f point result = option_map (place_after (placement_of code f) point) result

-- a function's site, but that all points stand at one address
abbrev pub marked : Site → ℕ → Site
marked site address = record {
  symbols = site.symbols;
  places = record { labels = site.places.labels; points = λ point. address };
  text = site.text;
  low = site.low;
  high = site.high;
}

-- items that are neither points nor calls stand there as in the function's own site, and a point says where it stands
abbrev pub MarkedStand : Type 0
MarkedStand =
    (site : Site) (mark address : ℕ) (items : List Item) → AllByRecursion IsInside items
    → StandsFrom site items address → StandsFrom (marked site mark) items address

abbrev pub MarksSayWhere : Type 0
MarksSayWhere =
    (site : Site) (mark address : ℕ) → StandsFrom (marked site mark) (item.Point 0 ∷ []) address → mark ≡ address

-- The items of a call are ready up to the instruction that calls, and what is behind that stands where the call returns
-- to: a point there has this address.
pub record CallAt (code : Code) (w : Waiting) (callee : ℕ) (places : List Place) (s : machine.State) : Type 0 where
  pub return_address : ℕ
  pub ready : ReadyAt (marked (site_of code w.activation.function) return_address)
      (before_call places ++ (item.CallFunction callee ∷ item.Point 0 ∷ [])) s
  pub returns_to : ReturnsTo code w callee return_address

abbrev pub CallsStand : Type 0
CallsStand =
    (code : Code) (w : Waiting) (result : Option ℕ) (callee : ℕ) (words : List ℕ) (s : machine.State)
    → IsSelected code → w.activation.function < length code.program.functions
    → Stands (flow_at code.program w.activation.function) w.point w.block
    → op_of code.program w.activation.function w.point ≡ Some (op.Call result callee words)
    → s.eip ≡ point_address code w.activation.function w.point
    → CallAt code w callee (places_before code w.activation.function w.point words) s

-- Where a call returns to stand the items behind it, and then the moves to the next point of the block, and that point.
pub record BehindCall (code : Code) (w : Waiting) (result : Option ℕ) (words : List ℕ) (address : ℕ) : Type 0 where
  pub rest : List Item
  pub stands : StandsFrom (site_of code w.activation.function)
      (behind_call (place_behind code w.activation.function w.point result) (length words) ++ rest) address
  pub follows : (q : ℕ) → point_after code.program w.activation.function w.block w.point ≡ Some q
      → (more : List Item)
      × (rest ≡ moves_to (placement_of code w.activation.function) w.point (Some q) ++ item.Point q ∷ more)

abbrev pub CallsReturn : Type 0
CallsReturn =
    (code : Code) (w : Waiting) (result : Option ℕ) (callee : ℕ) (words : List ℕ) (address : ℕ) → IsSelected code
    → w.activation.function < length code.program.functions
    → Stands (flow_at code.program w.activation.function) w.point w.block
    → op_of code.program w.activation.function w.point ≡ Some (op.Call result callee words)
    → ReturnsTo code w callee address → BehindCall code w result words address

-- ---- steps

abbrev pub StaysInCall : Leads → Type 0
StaysInCall Onward = ⊤
StaysInCall (IntoCall result words) = ⊥
StaysInCall (ToBlock x) = ⊤
StaysInCall (ToEither x y) = ⊤
StaysInCall OutOfCall = ⊥
StaysInCall OutOfProgram = ⊤

-- all ops but calls and returns
abbrev pub IsFollowed : Op → Type 0
IsFollowed op = StaysInCall (shape op).leads

-- From every state that shows one of the program at such an op the machine follows the program's step.
abbrev pub StepsFollow : Type 0
StepsFollow =
    (code : Code) (input : List ℕ) (g : graph.State) (s : machine.State) (o : Op) → IsSelected code
    → IsState code.program g → Shows code input g s → op_at code.program g ≡ Some o → IsFollowed o
    → Follows code input s g (is_nop (op_at code.program g)) (step code.program g)
