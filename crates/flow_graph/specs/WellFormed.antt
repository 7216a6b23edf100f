-- What every program of graphs keeps, and what each of its states keeps.
use Rattle.std.specs.Prelude.{ℕ, ◌≡◌, ◌<◌, ◌≤◌, ◌-◌, ℤ, List, [], ◌∷◌, length, map, slice_get, Option, Some, FitsSigned}
use Rattle.std.specs.Prelude.{⊤}
use Rattle.std.specs.Int.{w8, w32}
use Rattle.std.specs.List.{All, AllZip}
use Rattle.pcc_base.specs.Bytes.{AreBytes}
use Rattle.pcc_base.specs.Objects.{FitsBytes, IsObject, Object}
use Rattle.pcc_base.specs.Outcome.{ArrayName, Null, Static, InFrame, Unknown, Value, Number, Array}
use Rattle.pcc_base.specs.declared.run.Width.{Width}
use Rattle.pcc_base.specs.declared.run.Width.TheVariants.{One, Two}
use Rattle.flow_graph.specs.declared.op.Op.{Op}
use Rattle.flow_graph.specs.declared.op.Op.TheVariants as op
use Rattle.flow_graph.specs.Graphs.{Flow, IsArray, IsFlow, LastIsEnd, Stands}
use Rattle.flow_graph.specs.Meaning.{Moves, most_active, step}
use Rattle.flow_graph.specs.Running.{GraphAt, first_state}
use Rattle.flow_graph.specs.Shapes.{About, NothingElse, TheNumber, TheWord, TheObject, TheFunction, TheStatement}
use Rattle.flow_graph.specs.Shapes.{TheTurn, shape}
use Rattle.flow_graph.specs.States.{Activation, GraphProgram, State, Waiting, active_of, depth_of, elements_of}
use Rattle.flow_graph.specs.States.{entry_of, flow_at, op_of, value_at}

-- ---- programs of graphs

-- a function or an object is among so many
abbrev pub IsWithin : ℕ → ℕ → About → Type 0
IsWithin functions objects NothingElse = ⊤
IsWithin functions objects (TheNumber n) = ⊤
IsWithin functions objects (TheWord k) = ⊤
IsWithin functions objects (TheObject k) = k < objects
IsWithin functions objects (TheFunction f) = f < functions
IsWithin functions objects (TheStatement s) = ⊤
IsWithin functions objects TheTurn = ⊤

-- the functions and objects that an op names are among so many
abbrev pub NamesWithin : ℕ → ℕ → Op → Type 0
NamesWithin functions objects op = IsWithin functions objects (shape op).about

-- What the graph of a function keeps in a program of so many functions and objects: it has a first block, each of its
-- blocks is ended, and its ops name functions and objects of the program alone.
pub record IsGraph (functions objects : ℕ) (flow : Flow) : Type 0 where
  pub keeps : (homes : List ℕ) × IsFlow flow homes
  pub begins : 0 < length flow.blocks
  pub ended : All (LastIsEnd flow.ops) flow.blocks
  pub names : All (NamesWithin functions objects) flow.ops

-- what every program of graphs keeps
pub record IsGraphProgram (program : GraphProgram) : Type 0 where
  pub functions : All (IsGraph (length program.functions) (length program.objects)) program.functions
  pub objects : All IsObject program.objects
  pub main : program.main < length program.functions

-- ---- values

-- The active call of a depth has a frame array k, where these are the functions of the active calls, the youngest
-- first. The oldest, which is the call of `main`, has depth 1.
abbrev pub HasFrameArray : GraphProgram → List ℕ → ℕ → ℕ → Type 0
HasFrameArray program active k depth =
    (1 ≤ depth) × (depth ≤ length active) × (f : ℕ) × (slice_get active (length active - depth) ≡ Some f)
    × (k < length (flow_at program f).arrays)

-- the array is there; a variable holds 0 where it has none
abbrev pub HasArray : GraphProgram → List ℕ → ArrayName → Type 0
HasArray program active Null = ⊥
HasArray program active (Static k) = k < length program.objects
HasArray program active (InFrame k depth) = HasFrameArray program active k depth
HasArray program active Unknown = ⊥

-- what a variable of a width holds: a byte, or a number of 32 bits, or an array
abbrev pub FitsWidth : GraphProgram → List ℕ → Width → Value → Type 0
FitsWidth program active One (Number n) = FitsSigned w8 n
FitsWidth program active One (Array a) = ⊥
FitsWidth program active Two (Number n) = FitsSigned w32 n
FitsWidth program active Two (Array a) = HasArray program active a

-- as many elements, each a signed number of so many bytes
pub record AreElements (width count : ℕ) (elements : List ℤ) : Type 0 where
  pub many : length elements ≡ count
  pub fit : All (FitsBytes width) elements

abbrev pub AreElementsOf : ℕ × ℕ → List ℤ → Type 0
AreElementsOf array elements = AreElements array.0 array.1 elements

abbrev pub AreElementsIn : Object → List ℤ → Type 0
AreElementsIn object elements = AreElements object.width (length object.elements) elements

-- ---- active calls

-- What an active call keeps, where these are the functions of the older ones, the youngest first: its variables and
-- argument words hold what fits their widths, and no array of a younger call; its arrays are those of its function.
pub record IsActivation (program : GraphProgram) (older : List ℕ) (a : Activation) : Type 0 where
  pub function : a.function < length program.functions
  pub variables : AllZip (FitsWidth program (a.function ∷ older)) (flow_at program a.function).widths a.variables
  pub arguments : All (FitsWidth program (a.function ∷ older) Two) a.arguments
  pub arrays : AllZip AreElementsOf (flow_at program a.function).arrays a.arrays

-- the functions of active calls
abbrev pub functions_of : List Activation → List ℕ
functions_of active = map (λ a. a.function) active

-- what active calls keep, the youngest first
abbrev pub AreActivations : GraphProgram → List Activation → Type 0
AreActivations program [] = ⊤
AreActivations program (a ∷ older) = IsActivation program (functions_of older) a × AreActivations program older

-- A call waits in its block at a call of the next younger one's function, whose words have the younger one's arguments.
pub record IsWaiting (program : GraphProgram) (w : Waiting) (younger : Activation) : Type 0 where
  pub placed : Stands (flow_at program w.activation.function) w.point w.block
  pub result : Option ℕ
  pub words : List ℕ
  pub calls : op_of program w.activation.function w.point ≡ Some (op.Call result younger.function words)
  pub passes : map (slice_get w.activation.variables) words ≡ map Some younger.arguments

-- what the waiting calls of an active one keep; the oldest call is that of `main`, without argument words
abbrev pub AreWaiting : GraphProgram → Activation → List Waiting → Type 0
AreWaiting program younger [] = (younger.function ≡ program.main) × (younger.arguments ≡ [])
AreWaiting program younger (w ∷ waiting) = IsWaiting program w younger × AreWaiting program w.activation waiting

-- ---- states

-- what every state keeps
pub record IsState (program : GraphProgram) (s : State) : Type 0 where
  pub placed : Stands (flow_at program s.current.function) s.point s.block
  pub active : AreActivations program (active_of s)
  pub waiting : AreWaiting program s.current s.waiting
  pub few : depth_of s ≤ most_active
  pub objects : AllZip AreElementsIn program.objects s.objects
  pub left : AreBytes s.left
  pub written : AreBytes s.written

-- ---- laws

-- the first state over a list of bytes keeps it
abbrev pub FirstIsState : Type 0
FirstIsState =
    (program : GraphProgram) (input : List ℕ) (g : State) → IsGraphProgram program → AreBytes input
    → first_state program input ≡ Some g → IsState program g

-- a step keeps it
abbrev pub StepKeepsState : Type 0
StepKeepsState =
    (program : GraphProgram) (g h : State) → IsGraphProgram program → IsState program g → step program g ≡ Moves h
    → IsState program h

-- so every state that comes over a list of bytes keeps it
abbrev pub StatesAreStates : Type 0
StatesAreStates =
    (program : GraphProgram) (input : List ℕ) (k : ℕ) (g : State) → IsGraphProgram program → AreBytes input
    → GraphAt program input k g → IsState program g

-- every function has a first point
abbrev pub FunctionsBegin : Type 0
FunctionsBegin =
    (program : GraphProgram) (f : ℕ) → IsGraphProgram program → f < length program.functions
    → (point : ℕ) × (entry_of program f 0 ≡ Some point)

-- an array that a variable holds is there: it has elements, and they fit their width
abbrev pub HeldArraysAreThere : Type 0
HeldArraysAreThere =
    (program : GraphProgram) (g : State) (v : ℕ) (array : ArrayName) → IsGraphProgram program → IsState program g
    → value_at g v ≡ Some (Array array) → (width : ℕ) × (elements : List ℤ)
    × (elements_of program g array ≡ Some (width, elements)) × IsArray (width, length elements)
    × All (FitsBytes width) elements

-- a frame array that a variable holds is that of an active call: its depth is none above theirs
abbrev pub HeldFramesAreActive : Type 0
HeldFramesAreActive =
    (program : GraphProgram) (g : State) (v k depth : ℕ) → IsState program g
    → value_at g v ≡ Some (Array (InFrame k depth)) → (1 ≤ depth) × (depth ≤ depth_of g)
