-- Small graphs and maps that the definitions of boards and legal maps are read on.
use Rattle.std.specs.Prelude.{ℕ, ℤ, negsuc, List, [], ◌∷◌, Option, Some, pos, None}
use Rattle.pcc_base.specs.declared.run.Width.TheVariants.{One, Two}
use Rattle.flow_graph.specs.declared.op.Op.{Op}
use Rattle.flow_graph.specs.declared.op.Op.TheVariants.{Add, Call, Const, Div, Return, Shl}
use Rattle.flow_graph.specs.Graphs.{Flow}
use Rattle.flow_graph.specs.Lives.{Lives}
use Rattle.puzzle_board.specs.declared.piece.Columns.TheVariants.{All}
use Rattle.puzzle_board.specs.declared.piece.Kind.{Kind}
use Rattle.puzzle_board.specs.declared.piece.Piece.{Piece}
use Rattle.puzzle_board.specs.declared.place.Place.{Place}
use Rattle.puzzle_board.specs.declared.place.Place.TheVariants.{Cells, Slot}
use Rattle.puzzle_board.specs.Places.{Entry, PlaceMap}

-- one point with this op; variable 4 has width One, and 0 to 3 width Two
abbrev pub one_op : Op → Flow
one_op op = record {
  widths = Two ∷ Two ∷ Two ∷ Two ∷ One ∷ [];
  arrays = [];
  blocks = (0 ∷ []) ∷ [];
  ops = op ∷ [];
}

-- these variables are live before the point, and these after it
abbrev pub live_at : List ℕ → List ℕ → Lives
live_at before after = record { before = before ∷ []; after = after ∷ [] }

abbrev pub wide_piece : Kind → ℕ → Piece
wide_piece kind v = record { kind = kind; width = Two; var = v }

-- `div 2 0 1`, with 3 live before and after and 1 dead after
abbrev pub division : Op
division = Div 2 0 1

abbrev pub division_lives : Lives
division_lives = live_at (0 ∷ 1 ∷ 3 ∷ []) (2 ∷ 3 ∷ [])

-- `shl 2 0 4`
abbrev pub shift : Op
shift = Shl 2 0 4

abbrev pub shift_lives : Lives
shift_lives = live_at (0 ∷ 4 ∷ []) (2 ∷ [])

-- `call 2 f 0`, with 3 live over the call
abbrev pub one_call : Op
one_call = Call (Some 2) 0 (0 ∷ [])

abbrev pub call_lives : Lives
call_lives = live_at (0 ∷ 3 ∷ []) (2 ∷ 3 ∷ [])

-- `add 2 0 1`, with 0 live after
abbrev pub addition : Op
addition = Add 2 0 1

abbrev pub addition_lives : Lives
addition_lives = live_at (0 ∷ 1 ∷ []) (0 ∷ 2 ∷ [])

abbrev pub in_area : ℕ → Place
in_area area = Cells (record { area = area; columns = All })

abbrev pub at_place : ℕ → Place → Entry
at_place v place = (v, place)

-- a map of the one point
abbrev pub map_of : List Entry → List Entry → List ℕ → List (Option ℤ) → PlaceMap
map_of before after spilled slots = record {
  before = before ∷ [];
  after = after ∷ [];
  spilled = spilled ∷ [];
  slots = slots;
  frame = 20;
}

-- 0 in EAX, 1 in EBX before, and 2 in EBX after
abbrev pub in_registers : PlaceMap
in_registers = map_of (at_place 0 (in_area 0) ∷ at_place 1 (in_area 1) ∷ [])
    (at_place 0 (in_area 0) ∷ at_place 2 (in_area 1) ∷ []) [] []

-- 2 in EAX, where 0 is still
abbrev pub result_on_top : PlaceMap
result_on_top = map_of (at_place 0 (in_area 0) ∷ at_place 1 (in_area 1) ∷ [])
    (at_place 0 (in_area 0) ∷ at_place 2 (in_area 0) ∷ []) [] []

-- 0 in EAX before and in ECX after
abbrev pub moved_over_op : PlaceMap
moved_over_op = map_of (at_place 0 (in_area 0) ∷ at_place 1 (in_area 1) ∷ [])
    (at_place 0 (in_area 2) ∷ at_place 2 (in_area 1) ∷ []) [] []

-- 0 in its slot, 20 bytes below EBP
abbrev pub in_slot : PlaceMap
in_slot = map_of (at_place 0 (Slot (negsuc 19)) ∷ at_place 1 (in_area 1) ∷ [])
    (at_place 0 (Slot (negsuc 19)) ∷ at_place 2 (in_area 1) ∷ []) (0 ∷ []) (Some (negsuc 19) ∷ [])

-- 5 is put into a variable and returned
abbrev pub five_returned : Flow
five_returned = record {
  widths = Two ∷ [];
  arrays = [];
  blocks = (0 ∷ 1 ∷ []) ∷ [];
  ops = Const 0 (pos 5) ∷ Return (Some 0) ∷ [];
}

-- a map of it, in which the variable stands in EAX, with so many bytes of frame
abbrev pub five_in_eax : ℕ → PlaceMap
five_in_eax frame = record {
  before = [] ∷ (at_place 0 (in_area 0) ∷ []) ∷ [];
  after = (at_place 0 (in_area 0) ∷ []) ∷ [] ∷ [];
  spilled = [] ∷ [] ∷ [];
  slots = None ∷ [];
  frame = frame;
}
