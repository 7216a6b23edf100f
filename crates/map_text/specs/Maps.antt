-- Maps: what is where in an image. A map is a tree, and the rules say which trees are maps.
use Rattle.std.specs.Prelude.{◌≡◌, ◌<◌, ◌≤◌, ◌⊎◌, ⊤, ℕ, ◌^◌, List, [], length, map, flat_map, slice_get, Some}
use Rattle.std.specs.Prelude.{FitsSigned}
use Rattle.std.specs.Int.{w32}
use Rattle.std.specs.List.{All}
use Rattle.pcc_base.specs.Names.{IsName}
use Rattle.pcc_base.specs.declared.run.Width.{Width}
use Rattle.pcc_base.specs.declared.run.Width.TheVariants.{One, Two}
use Rattle.puzzle_board.specs.declared.area.Area.{Area}
use Rattle.puzzle_board.specs.declared.piece.Piece.{Piece}
use Rattle.ia32_insn.specs.Places.{Place, InWord, InByte, InSlot, IsPlace}
use Rattle.flow_graph.specs.declared.op.Op.{Op}
use Rattle.flow_graph.specs.Graphs.{Flow, FitsOp}
use Rattle.flow_graph.specs.Lives.{IsAscending}
use Rattle.flow_graph.specs.Shapes.{About, NothingElse, TheNumber, TheWord, TheObject, TheFunction, TheStatement}
use Rattle.flow_graph.specs.Shapes.{TheTurn, shape}
use Rattle.flow_graph.specs.WellFormed.{NamesWithin}

-- what a variable is: a scalar local, the array or the index of a pointer local, or a temporary
pub data Named : Type 0 where
  NamesScalar : (name : List ℕ) → Named
  NamesArray : (name : List ℕ) → Named
  NamesIndex : (name : List ℕ) → Named
  Temporary : Named

-- a static object: the address of its element 0, its elements, and the bytes of one
pub record MapObject : Type 0 where
  pub address : ℕ
  pub count : ℕ
  pub bytes : ℕ

-- a frame array: how far below the frame its element 0 is, its elements, and the bytes of one
pub record MapArray : Type 0 where
  pub below : ℕ
  pub count : ℕ
  pub bytes : ℕ

pub record MapVariable : Type 0 where
  pub width : Width
  pub named : Named

-- a variable, and where it stands
pub record Standing : Type 0 where
  pub variable : ℕ
  pub place : Place

-- a point of the graph: its op, the areas and the pieces of its board, where variables stand before it and after it, and
-- those that are spilled there
pub record MapPoint : Type 0 where
  pub number : ℕ
  pub address : ℕ
  pub op : Op
  pub areas : List Area
  pub pieces : List Piece
  pub before : List Standing
  pub after : List Standing
  pub spilled : List ℕ

-- a function: its arrays, variables and blocks are numbered from 0 in order
pub record MapFunction : Type 0 where
  pub name : List ℕ
  pub frame : ℕ
  pub arrays : List MapArray
  pub variables : List MapVariable
  pub blocks : List (List MapPoint)

-- its objects and functions are numbered from 0 in order
pub record Map : Type 0 where
  pub objects : List MapObject
  pub functions : List MapFunction

-- the points of all blocks, in order
abbrev pub points_of : MapFunction → List MapPoint
points_of f = flat_map (λ block. block) f.blocks

-- ---- the rules of a map's parts

-- every number of a map
abbrev pub IsNumber : ℕ → Type 0
IsNumber n = n < 2 ^ 32

abbrev pub IsNamed : Named → Type 0
IsNamed (NamesScalar name) = IsName name
IsNamed (NamesArray name) = IsName name
IsNamed (NamesIndex name) = IsName name
IsNamed Temporary = ⊤

-- at least one element, each of 1, 2 or 4 bytes
abbrev pub AreElements : ℕ → ℕ → Type 0
AreElements count bytes = IsNumber count × (1 ≤ count) × ((bytes ≡ 1) ⊎ ((bytes ≡ 2) ⊎ (bytes ≡ 4)))

abbrev pub IsMapObject : MapObject → Type 0
IsMapObject o = IsNumber o.address × AreElements o.count o.bytes

-- so far below the frame that its offset from there is a signed number of 32 bits below 0
abbrev pub IsMapArray : MapArray → Type 0
IsMapArray a = (1 ≤ a.below) × (a.below ≤ 2 ^ 31) × AreElements a.count a.bytes

abbrev pub IsMapVariable : MapVariable → Type 0
IsMapVariable v = IsNamed v.named

-- a place for a variable of that width: a register for one of four bytes, a byte of a register for one of one byte, and
-- a slot for both
abbrev pub TakesWidth : Width → Place → Type 0
TakesWidth Two (InWord r) = ⊤
TakesWidth One (InWord r) = ⊥
TakesWidth Two (InByte r) = ⊥
TakesWidth One (InByte r) = ⊤
TakesWidth width (InSlot below) = ⊤

-- a variable of the function, in a place of its width
abbrev pub IsStanding : List MapVariable → Standing → Type 0
IsStanding variables s =
    (v : MapVariable) × (slice_get variables s.variable ≡ Some v) × TakesWidth v.width s.place × IsPlace s.place

-- each variable at most once, in ascending order
abbrev pub AreStandings : List MapVariable → List Standing → Type 0
AreStandings variables standings = All (IsStanding variables) standings × IsAscending (map (λ s. s.variable) standings)

-- of what an op is about, the numbers that name nothing: a signed one of 32 bits, an argument word, and a statement
abbrev pub HasNumber : About → Type 0
HasNumber NothingElse = ⊤
HasNumber (TheNumber n) = FitsSigned w32 n
HasNumber (TheWord k) = IsNumber k
HasNumber (TheObject k) = ⊤
HasNumber (TheFunction f) = ⊤
HasNumber (TheStatement s) = IsNumber s
HasNumber TheTurn = ⊤

-- the numbers of an op that name nothing
abbrev pub HasNumbers : Op → Type 0
HasNumbers op = HasNumber (shape op).about

-- what ops see of a function: its variables, arrays and blocks
abbrev pub flow_of : MapFunction → Flow
flow_of f =
    record {
      widths = map (λ v. v.width) f.variables;
      arrays = map (λ a. (a.bytes, a.count)) f.arrays;
      blocks = map (map (λ p. p.number)) f.blocks;
      ops = [];
    }

-- the op is over variables, arrays and blocks of its function, and functions and objects of the map
pub record IsMapOp (m : Map) (f : MapFunction) (op : Op) : Type 0 where
  pub fits : FitsOp (flow_of f) op
  pub names : NamesWithin (length m.functions) (length m.objects) op
  pub numbers : HasNumbers op
