-- The board of a point: the areas that are free for its pieces, and the pieces. The areas are the registers EAX, EBX,
-- ECX and EDX, in this order, the low column being AL, BL, CL or DL. What an op fixes or takes is as its instructions
-- have it: a shift by a variable count has the count in CL (Intel manual, volume 2, "SAL/SAR/SHL/SHR"), a division
-- has its dividend in EDX:EAX, its quotient in EAX and its remainder in EDX (the same, "IDIV"), and a call has its
-- result in EAX and keeps EBX, but not ECX and EDX (System V ABI, Intel386 supplement, section 3).
use Rattle.std.specs.Prelude.{ℕ, Bool, true, false, cond, eqb, ltb, ◌&&◌, not, if◌then◌else◌, List, [], ◌∷◌, ◌++◌}
use Rattle.std.specs.Prelude.{Option, Some, None, slice_index_or}
use Rattle.pcc_base.specs.declared.run.Width.{Width}
use Rattle.pcc_base.specs.declared.run.Width.TheVariants.{Two}
use Rattle.flow_graph.specs.declared.op.Op.{Op}
use Rattle.flow_graph.specs.Graphs.{Flow, has_point}
use Rattle.flow_graph.specs.Liveness.{defined}
use Rattle.flow_graph.specs.Lives.{Lives, at_point}
use Rattle.flow_graph.specs.Shapes.{Takes, NoRegister, Count, Division, AcrossCall, Quotient, Remainder, shape}
use Rattle.puzzle_board.specs.declared.area.Area.{Area}
use Rattle.puzzle_board.specs.declared.area.Column.TheVariants.{Both, Lower, Neither, Upper}
use Rattle.puzzle_board.specs.declared.piece.Columns.TheVariants as columns
use Rattle.puzzle_board.specs.declared.piece.Kind.{Kind}
use Rattle.puzzle_board.specs.declared.piece.Kind.TheVariants.{X, Y, Z}
use Rattle.puzzle_board.specs.declared.piece.Piece.{Piece}
use Rattle.puzzle_board.specs.declared.piece.Spot.{Spot}
use Rattle.flow_liveness.specs.Names.{is_named}

-- ---- areas

abbrev pub free_area : Area
free_area = record { low = Both; high = Both }

abbrev pub taken_area : Area
taken_area = record { low = Neither; high = Neither }

-- free before the op alone
abbrev pub area_before : Area
area_before = record { low = Upper; high = Upper }

abbrev pub all_free : List Area
all_free = free_area ∷ free_area ∷ free_area ∷ free_area ∷ []

-- the count of a shift is in CL
abbrev pub count_taken : List Area
count_taken = free_area ∷ free_area ∷ record { low = Lower; high = Both } ∷ free_area ∷ []

-- a division has all of EAX and EDX
abbrev pub ends_taken : List Area
ends_taken = taken_area ∷ free_area ∷ free_area ∷ taken_area ∷ []

-- over a call EBX alone is kept
abbrev pub callee_saved : List Area
callee_saved = area_before ∷ free_area ∷ area_before ∷ area_before ∷ []

abbrev pub areas_by : Takes → List Area
areas_by NoRegister = all_free
areas_by (Count count shifted) = count_taken
areas_by (Division dividend divisor gives) = ends_taken
areas_by AcrossCall = callee_saved

-- the cells that are free for the pieces of an op: those that it neither fixes nor takes
abbrev pub areas_of : Op → List Area
areas_of op = areas_by (shape op).takes

-- ---- fixed pieces: they stand on no board

-- a variable, and where it has to stand
pub record Fixed : Type 0 where
  pub variable : ℕ
  pub spot : Spot

abbrev pub fixed_at : ℕ → Spot → Fixed
fixed_at variable spot = record { variable = variable; spot = spot }

abbrev pub eax : Spot
eax = record { area = 0; columns = columns.All }

abbrev pub edx : Spot
edx = record { area = 3; columns = columns.All }

abbrev pub cl : Spot
cl = record { area = 2; columns = columns.Low }

abbrev pub use_by : Takes → Option Fixed
use_by NoRegister = None
use_by (Count count shifted) = Some (fixed_at count cl)
use_by (Division dividend divisor gives) = Some (fixed_at dividend eax)
use_by AcrossCall = None

-- the operand that has to stand somewhere before the op
abbrev pub fixed_use : Op → Option Fixed
fixed_use op = use_by (shape op).takes

abbrev pub fixed_if_any : Option ℕ → Spot → Option Fixed
fixed_if_any None spot = None
fixed_if_any (Some v) spot = Some (fixed_at v spot)

abbrev pub result_by : Takes → Option ℕ → Option Fixed
result_by NoRegister written = None
result_by (Count count shifted) written = None
result_by (Division dividend divisor Quotient) written = fixed_if_any written eax
result_by (Division dividend divisor Remainder) written = fixed_if_any written edx
result_by AcrossCall written = fixed_if_any written eax

-- the result that has to stand somewhere after the op
abbrev pub fixed_result : Op → Option Fixed
fixed_result op = result_by (shape op).takes (shape op).writes

abbrev pub fixed_variable : Option Fixed → Option ℕ
fixed_variable None = None
fixed_variable (Some fixed) = Some fixed.variable

-- ---- pieces

-- a variable more, in ascending order, if it isn't there
abbrev pub with_one : ℕ → List ℕ → List ℕ
with_one v [] = v ∷ []
with_one v (w ∷ ws) = cond (ltb v w) (v ∷ w ∷ ws) (cond (eqb v w) (w ∷ ws) (w ∷ with_one v ws))

abbrev pub with_result : Option ℕ → List ℕ → List ℕ
with_result None vs = vs
with_result (Some v) vs = with_one v vs

abbrev pub width_at : Flow → ℕ → Width
width_at flow v = slice_index_or flow.widths v Two

abbrev pub piece_of : Flow → Kind → ℕ → Piece
piece_of flow kind v = record { kind = kind; width = width_at flow v; var = v }

abbrev pub if_so : Bool → Piece → List Piece
if_so true piece = piece ∷ []
if_so false piece = []

-- what is live before the op is an X where it isn't live after it or is defined there, and else a Y
abbrev pub use_kind : Bool → Bool → Kind
use_kind live_after is_defined = if live_after && not is_defined then Y else X

-- the pieces of one variable: an X or a Y where it is live before the op, and a Z where it is defined there, also
-- where it is dead after; but none that is fixed
abbrev pub pieces_of_variable : Flow → Lives → ℕ → Op → ℕ → List Piece
pieces_of_variable flow lives point op v =
    if_so (has_point v (at_point lives.before point) && not (is_named (fixed_variable (fixed_use op)) v))
    (piece_of flow (use_kind (has_point v (at_point lives.after point)) (is_named (defined op) v)) v)
    ++ if_so (is_named (defined op) v && not (is_named (fixed_variable (fixed_result op)) v)) (piece_of flow Z v)

abbrev pub pieces_of_all : Flow → Lives → ℕ → Op → List ℕ → List Piece
pieces_of_all flow lives point op [] = []
pieces_of_all flow lives point op (v ∷ vs) =
    pieces_of_variable flow lives point op v ++ pieces_of_all flow lives point op vs

-- the pieces of a point, in ascending order of variables, an X of a variable before its Z
abbrev pub point_pieces : Flow → Lives → ℕ → Op → List Piece
point_pieces flow lives point op =
    pieces_of_all flow lives point op (with_result (defined op) (at_point lives.before point))
