-- The states of a program of graphs.
use Rattle.std.specs.Prelude.{ℕ, suc, ◌-◌, ◌==◌, ℤ, pos, List, [], ◌∷◌, length, map, replicate, slice_get}
use Rattle.std.specs.Prelude.{slice_set, nat_le}
use Rattle.std.specs.Prelude.{slice_index_or, Option, Some, None, option_map, if◌then◌else◌}
use Rattle.std.specs.Int.{w8, int_wrap}
pub use Rattle.pcc_base.specs.Arithmetic.{element_at, with_element}
use Rattle.pcc_base.specs.Outcome.{ArrayName, Null, Static, InFrame, Unknown, Value, Number, Array}
pub use Rattle.pcc_base.specs.Objects.{Object}
use Rattle.pcc_base.specs.declared.run.Width.{Width}
use Rattle.pcc_base.specs.declared.run.Width.TheVariants.{One}
use Rattle.flow_graph.specs.declared.op.Op.{Op}
use Rattle.flow_graph.specs.Graphs.{Flow, empty_flow, points_of, following}

-- a program of graphs: its functions and static objects by their numbers, and which function is `main`
pub record GraphProgram : Type 0 where
  pub functions : List Flow
  pub objects : List Object
  pub main : ℕ

-- An active call: its function, its argument words, the values of the variables, and the frame arrays. A
-- variable holds a number, or an array; no array is the number 0.
pub record Activation : Type 0 where
  pub function : ℕ
  pub arguments : List Value
  pub variables : List Value
  pub arrays : List (List ℤ)

-- an active call that waits for another, which its op at this point made
pub record Waiting : Type 0 where
  pub activation : Activation
  pub block : ℕ
  pub point : ℕ

-- A state: the point about to run and its block, the youngest active call and those that wait, the youngest
-- first, the static objects, the input left, how much of it was taken, and the bytes written.
pub record State : Type 0 where
  pub block : ℕ
  pub point : ℕ
  pub current : Activation
  pub waiting : List Waiting
  pub objects : List (List ℤ)
  pub left : List ℕ
  pub taken : ℕ
  pub written : List ℕ

-- ---- graphs and their points

abbrev pub flow_at : GraphProgram → ℕ → Flow
flow_at program f = slice_index_or program.functions f empty_flow

-- the op of a point of a function
abbrev pub op_of : GraphProgram → ℕ → ℕ → Option Op
op_of program f point = slice_get (flow_at program f).ops point

-- the op that is about to run
abbrev pub op_at : GraphProgram → State → Option Op
op_at program s = op_of program s.current.function s.point

-- the first point of a block of a function
abbrev pub entry_of : GraphProgram → ℕ → ℕ → Option ℕ
entry_of program f block = slice_get (points_of (flow_at program f) block) 0

-- the point right after a point of a block
abbrev pub point_after : GraphProgram → ℕ → ℕ → ℕ → Option ℕ
point_after program f block point = following point (points_of (flow_at program f) block)

-- ---- the start of a call: variables and the elements of frame arrays are 0

abbrev pub first_array : ℕ × ℕ → List ℤ
first_array array = replicate array.1 (pos 0)

abbrev pub first_activation : GraphProgram → ℕ → List Value → Activation
first_activation program f arguments = record {
  function = f;
  arguments = arguments;
  variables = map (λ width. Number (pos 0)) (flow_at program f).widths;
  arrays = map first_array (flow_at program f).arrays;
}

-- ---- variables

-- the values in a place of a list of which it has one
abbrev pub value_at : State → ℕ → Option Value
value_at s v = slice_get s.current.variables v

abbrev pub number_of : Option Value → Option ℤ
number_of None = None
number_of (Some (Number n)) = Some n
number_of (Some (Array a)) = None

-- a number in a variable, where it holds one
abbrev pub number_at : State → ℕ → Option ℤ
number_at s v = number_of (value_at s v)

-- no array is the number 0
abbrev pub array_from : Option Value → Option ArrayName
array_from None = None
array_from (Some (Number (pos ℕ.zero))) = Some Null
array_from (Some (Number n)) = None
array_from (Some (Array a)) = Some a

-- the array in a variable, where it holds one or 0
abbrev pub array_at : State → ℕ → Option ArrayName
array_at s v = array_from (value_at s v)

abbrev pub with_variables : List Value → State → State
with_variables variables s =
    record s {
      current = record {
        function = s.current.function;
        arguments = s.current.arguments;
        variables = variables;
        arrays = s.current.arrays;
      };
    }

-- the state with another value in a variable
abbrev pub with_value : ℕ → Value → State → State
with_value v value s = with_variables (slice_set s.current.variables v value) s

-- a number as a variable of a width holds it
abbrev pub fitted : Option Width → ℤ → ℤ
fitted (Some One) n = int_wrap w8 n
fitted _ n = n

abbrev pub width_of : GraphProgram → State → ℕ → Option Width
width_of program s v = slice_get (flow_at program s.current.function).widths v

-- ---- arrays

-- the active calls, the youngest first
abbrev pub active_of : State → List Activation
active_of s = s.current ∷ map (λ w. w.activation) s.waiting

-- how many calls are active
abbrev pub depth_of : State → ℕ
depth_of s = suc (length s.waiting)

abbrev pub with_elements : ℕ → List ℤ → Activation → Activation
with_elements k elements a = record {
  function = a.function;
  arguments = a.arguments;
  variables = a.variables;
  arrays = slice_set a.arrays k elements;
}

-- the place among the waiting calls of the one of a depth, with `main` at depth 1; a depth above theirs has none, and
-- its place is past their end
abbrev pub waiting_place : State → ℕ → ℕ
waiting_place s depth = if nat_le depth (length s.waiting) then length s.waiting - depth else length s.waiting

-- the active call of a depth, where there is one
abbrev pub frame_at : State → ℕ → Option Activation
frame_at s depth = if depth == depth_of s then Some s.current
    else option_map (λ w. w.activation) (slice_get s.waiting (waiting_place s depth))

-- an array: the bytes of an element, and its elements
abbrev pub Elements : Type 0
Elements = ℕ × List ℤ

abbrev pub elements_with : Option ℕ → Option (List ℤ) → Option Elements
elements_with (Some width) (Some elements) = Some (width, elements)
elements_with _ _ = None

abbrev pub elements_in : GraphProgram → ℕ → Option Activation → Option Elements
elements_in program k None = None
elements_in program k (Some a) = elements_with
    (option_map (λ array. array.0) (slice_get (flow_at program a.function).arrays k)) (slice_get a.arrays k)

abbrev pub elements_of : GraphProgram → State → ArrayName → Option Elements
elements_of program s Null = None
elements_of program s (Static k) = elements_with (option_map (λ object. object.width) (slice_get program.objects k))
    (slice_get s.objects k)
elements_of program s (InFrame k depth) = elements_in program k (frame_at s depth)
elements_of program s Unknown = None

abbrev pub waiting_with : ℕ → List ℤ → ℕ → Option Waiting → List Waiting → List Waiting
waiting_with k elements place None waiting = waiting
waiting_with k elements place (Some w) waiting =
    slice_set waiting place (record {
      activation = with_elements k elements w.activation;
      block = w.block;
      point = w.point;
    })

-- the state where an array has these elements
abbrev pub with_array : ArrayName → List ℤ → State → State
with_array Null elements s = s
with_array (Static k) elements s = record s { objects = slice_set s.objects k elements }
with_array (InFrame k depth) elements s =
    if depth == depth_of s then record s { current = with_elements k elements s.current }
    else record s {
      waiting = waiting_with k elements (waiting_place s depth)
          (slice_get s.waiting (waiting_place s depth)) s.waiting;
    }
with_array Unknown elements s = s

-- ---- the first state

-- `main` at a point of its graph's first block, over an input
abbrev pub first_state_at : GraphProgram → List ℕ → ℕ → State
first_state_at program input point = record {
  block = 0;
  point = point;
  current = first_activation program program.main [];
  waiting = [];
  objects = map (λ object. object.elements) program.objects;
  left = input;
  taken = 0;
  written = [];
}
