-- How the states of a source program and of its graphs belong together, at points between statements and within
-- expressions: objects, streams and active calls are the same, and the first variables of each call hold its locals.
use Rattle.std.specs.Prelude.{◌≡◌, ◌<◌, ◌≤◌, ℕ, suc, ◌+◌, ◌*◌, ℤ, pos, List, [], ◌∷◌, length, map, slice_get}
use Rattle.std.specs.Prelude.{Option, Some, None, ◌==◌, if◌then◌else◌, IsSomeAnd}
use Rattle.std.specs.List.{All, AllZip}
use Rattle.pcc_base.specs.Outcome.{ArrayName, Null, Static, InFrame, Unknown, Value, Number, Array}
use Rattle.c_tree.specs.declared.types.IntegerType.{IntegerType}
use Rattle.c_tree.specs.declared.types.ValueType.{ValueType}
use Rattle.c_tree.specs.declared.types.ValueType.TheVariants.{Void, Integer, Pointer}
use Rattle.c_tree.specs.Program.{Local, Function, Program}
use Rattle.c_tree.specs.Store as source
use Rattle.c_tree.specs.Store.{Held, HoldsNumber, HoldsPointer, converted}
use Rattle.flow_graph.specs.States as graph
use Rattle.flow_graph.specs.States.{active_of, value_at}
use Rattle.lower_lines.specs.Shown.{type_widths}
use Rattle.lower_lines.specs.Variables.{Spot, typed_spot, variable_widths}

-- ---- values

-- a pointer's array as a variable holds it: null is 0
abbrev pub array_value : ArrayName → Value
array_value Null = Number (pos 0)
array_value (Static k) = Array (Static k)
array_value (InFrame k depth) = Array (InFrame k depth)
array_value Unknown = Array Unknown

-- variables hold a value of a type
abbrev pub HoldsAt : List Value → ValueType → Spot → Held → Type 0
HoldsAt variables Void spot value = Unit {0}
HoldsAt variables (Integer t) spot (HoldsNumber n) = slice_get variables spot.number ≡ Some (Number n)
HoldsAt variables (Pointer t) spot (HoldsPointer array index) =
    (slice_get variables spot.array ≡ Some (array_value array))
    × (slice_get variables spot.number ≡ Some (Number index))
HoldsAt variables (Integer t) spot (HoldsPointer array index) = ⊥
HoldsAt variables (Pointer t) spot (HoldsNumber n) = ⊥

-- ---- what values a typed program has

-- The function of the active call of a depth, where these are those of the active calls, the youngest first; `main` has
-- depth 1.
abbrev pub function_of_depth : List Function → ℕ → Option Function
function_of_depth [] depth = None
function_of_depth (f ∷ others) depth = if depth == suc (length others) then Some f else function_of_depth others depth

-- The array is there, in a call that isn't younger, and has elements of this type.
abbrev pub IsArrayOf : Program → List Function → IntegerType → ArrayName → Type 0
IsArrayOf p active t Null = Unit {0}
IsArrayOf p active t (Static k) = IsSomeAnd (slice_get p.objects k) (λ o. o.element ≡ t)
IsArrayOf p active t (InFrame k depth) = IsSomeAnd (function_of_depth active depth)
    (λ f. IsSomeAnd (slice_get f.arrays k) (λ a. a.element ≡ t))
IsArrayOf p active t Unknown = ⊥

-- a value is one of the type: a number, or a pointer to such elements
abbrev pub IsOf : Program → List Function → ValueType → Held → Type 0
IsOf p active Void value = Unit {0}
IsOf p active (Integer t) (HoldsNumber n) = Unit {0}
IsOf p active (Pointer t) (HoldsPointer array index) = IsArrayOf p active t array
IsOf p active (Integer t) (HoldsPointer array index) = ⊥
IsOf p active (Pointer t) (HoldsNumber n) = ⊥

-- A number of the type is one that a conversion to it keeps (C99 6.3.1.3p1).
abbrev pub IsNumberOf : IntegerType → ℤ → Type 0
IsNumberOf t n = converted t n ≡ n

-- elements of an array of the type
abbrev pub AreNumbersOf : IntegerType → List ℤ → Type 0
AreNumbersOf t elements = All (IsNumberOf t) elements

-- ---- active calls

-- The variables of locals from a place on hold their values: one for a number, two for a pointer.
abbrev pub HoldLocals : List Value → ℕ → List Local → List Held → Type 0
HoldLocals variables v [] [] = Unit {0}
HoldLocals variables v (l ∷ ls) (x ∷ xs) =
    HoldsAt variables l.of (typed_spot l.of v) x × HoldLocals variables (v + length (type_widths l.of)) ls xs
HoldLocals variables v [] (x ∷ xs) = ⊥
HoldLocals variables v (l ∷ ls) [] = ⊥

-- An active call of a function, with its source's locals and arrays: where `active` has the functions of this call and
-- the older ones.
pub record ShowsCall (p : Program) (f : Function) (active : List Function) (a : source.Activation)
    (b : graph.Activation) : Type 0 where
  pub function : slice_get p.functions b.function ≡ Some f
  pub as_many : length b.variables ≡ length (variable_widths f)
  pub locals : HoldLocals b.variables 0 f.locals a.values
  pub values : AllZip (λ l x. IsOf p active l.of x) f.locals a.values
  pub arrays : b.arrays ≡ a.arrays
  pub counts : map (λ elements. length elements) a.arrays ≡ map (λ array. array.count) f.arrays
  pub fits : AllZip (λ array elements. AreNumbersOf array.element elements) f.arrays a.arrays

-- the active calls, the youngest first
abbrev pub ShowCalls : Program → List Function → List source.Activation → List graph.Activation → Type 0
ShowCalls p [] [] [] = Unit {0}
ShowCalls p (f ∷ fs) (a ∷ others) (b ∷ bs) = ShowsCall p f (f ∷ fs) a b × ShowCalls p fs others bs
ShowCalls p _ _ _ = ⊥

-- A state of the source and one of the graphs, wherever the latter stands: `active` has the functions of the active
-- calls, the youngest first.
pub record Shows (p : Program) (active : List Function) (s : source.State) (g : graph.State) : Type 0 where
  pub calls : ShowCalls p active s.active (active_of g)
  pub objects : g.objects ≡ s.objects
  pub counts : map (λ elements. length elements) s.objects ≡ map (λ o. length o.elements) p.objects
  pub fits : AllZip (λ o elements. AreNumbersOf o.element elements) p.objects s.objects
  pub left : g.left ≡ s.left
  pub taken : g.taken ≡ s.taken
  pub written : g.written ≡ s.written

-- ---- what lines keep

-- a waiting call is the same but for its arrays
pub record SameWaiting (v w : graph.Waiting) : Type 0 where
  pub function : w.activation.function ≡ v.activation.function
  pub arguments : w.activation.arguments ≡ v.activation.arguments
  pub variables : w.activation.variables ≡ v.activation.variables
  pub block : w.block ≡ v.block
  pub point : w.point ≡ v.point

-- What the lines of a function leave as it was, where `first` is its first temporary and their level is this: the
-- temporaries below the level, the argument words, and the waiting calls but for their arrays.
pub record Keeps (first level : ℕ) (g h : graph.State) : Type 0 where
  pub function : h.current.function ≡ g.current.function
  pub arguments : h.current.arguments ≡ g.current.arguments
  pub temporaries : (v : ℕ) → first ≤ v → v < first + level * 5 → value_at h v ≡ value_at g v
  pub waiting : AllZip SameWaiting g.waiting h.waiting
