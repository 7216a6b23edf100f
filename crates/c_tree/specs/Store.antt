-- What a program holds while it runs, and how far it has come (C99 5.1.2.3 and 6.2.4).
use Rattle.std.specs.Prelude.{ℕ, zero, suc, ◌==◌, ℤ, pos, List, [], ◌∷◌, ◌++◌, length, map, replicate}
use Rattle.std.specs.Prelude.{slice_get}
use Rattle.std.specs.Prelude.{slice_set, slice_index_or, Option, Some, None, if◌then◌else◌}
use Rattle.std.specs.Int.{w8, w16, int_wrap}
pub use Rattle.pcc_base.specs.Arithmetic.{element_at, with_element}
use Rattle.pcc_base.specs.Outcome.{End, Goes, Trapped, ArrayName, Value, Number, Part, Visit, Listing}
use Rattle.pcc_base.specs.Outcome as outcome
use Rattle.pcc_base.specs.declared.run.Trap.TheVariants.{Check}
use Rattle.c_tree.specs.declared.types.IntegerType.{IntegerType}
use Rattle.c_tree.specs.declared.types.IntegerType.TheVariants.{Char, Short, Int, UnsignedInt}
use Rattle.c_tree.specs.declared.types.ValueType.{ValueType}
use Rattle.c_tree.specs.declared.types.ValueType.TheVariants.{Void, Integer, Pointer}
use Rattle.c_tree.specs.declared.expression.ArrayRef.{ArrayRef}
use Rattle.c_tree.specs.declared.expression.ArrayRef.TheVariants as refs
use Rattle.c_tree.specs.Program.{Local, LocalArray}

-- a value: a number, or a pointer's array and index. The null pointer has no array and the index 0.
pub data Held : Type 0 where
  HoldsNumber : (number : ℤ) → Held
  HoldsPointer : (array : ArrayName) (index : ℤ) → Held

abbrev pub null_pointer : Held
null_pointer = HoldsPointer outcome.Null (pos 0)

-- ---- what a type does to a value

-- A conversion to a narrower integer type keeps the low bits (C99 6.3.1.3); every number is one of `int`, and one of
-- `unsigned int` is held as the `int` with the same bits.
abbrev pub converted : IntegerType → ℤ → ℤ
converted Char n = int_wrap w8 n
converted Short n = int_wrap w16 n
converted Int n = n
converted UnsignedInt n = n

-- A value in a type; a number becomes a pointer only where it is the null constant (C99 6.3.2.3).
abbrev pub in_type : ValueType → Held → Held
in_type Void v = HoldsNumber (pos 0)
in_type (Integer t) (HoldsNumber n) = HoldsNumber (converted t n)
in_type (Integer t) (HoldsPointer array index) = HoldsNumber (pos 0)
in_type (Pointer t) (HoldsNumber n) = null_pointer
in_type (Pointer t) (HoldsPointer array index) = HoldsPointer array index

-- what a local of the type holds before anything is stored: 0, or null
abbrev pub zero_of : ValueType → Held
zero_of Void = HoldsNumber (pos 0)
zero_of (Integer t) = HoldsNumber (pos 0)
zero_of (Pointer t) = null_pointer

-- ---- the store

-- an active call: what the locals that are no arrays hold, and the arrays of the function
pub record Activation : Type 0 where
  pub values : List Held
  pub arrays : List (List ℤ)

-- How far a program is: the turns that are left, the input left, how much of it was taken, the bytes
-- written, the visits, the static objects, and the active calls, the youngest first.
pub record State : Type 0 where
  pub turns : ℕ
  pub left : List ℕ
  pub taken : ℕ
  pub written : List ℕ
  pub visits : List Visit
  pub objects : List (List ℤ)
  pub active : List Activation

abbrev pub no_activation : Activation
no_activation = record { values = []; arrays = [] }

-- the youngest active call
abbrev pub youngest : List Activation → Activation
youngest [] = no_activation
youngest (a ∷ others) = a

abbrev pub with_youngest : Activation → List Activation → List Activation
with_youngest a [] = []
with_youngest a (b ∷ bs) = a ∷ bs

-- what a local holds
abbrev pub held : State → ℕ → Held
held s local = slice_index_or (youngest s.active).values local (HoldsNumber (pos 0))

abbrev pub with_local : ℕ → Held → State → State
with_local local value s =
    record s {
      active = with_youngest (record {
        values = slice_set (youngest s.active).values local value;
        arrays = (youngest s.active).arrays;
      }) s.active;
    }

-- ---- arrays: static objects, and the arrays of active calls, which go by their depth, 1 for `main`

abbrev pub arrays_in : Option Activation → List (List ℤ)
arrays_in None = []
arrays_in (Some a) = a.arrays

-- the active call of a depth, where there is one
abbrev pub call_of_depth : List Activation → ℕ → Option Activation
call_of_depth [] depth = None
call_of_depth (a ∷ others) depth = if depth == suc (length others) then Some a else call_of_depth others depth

abbrev pub array_named : State → ArrayName → List ℤ
array_named s outcome.Null = []
array_named s (outcome.Static k) = slice_index_or s.objects k []
array_named s (outcome.InFrame k depth) = slice_index_or (arrays_in (call_of_depth s.active depth)) k []
array_named s outcome.Unknown = []

abbrev pub with_own : ℕ → List ℤ → Activation → Activation
with_own k elements a = record { values = a.values; arrays = slice_set a.arrays k elements }

-- the active calls, with these elements in an array of the one of a depth, where there is one
abbrev pub with_array_in : ℕ → ℕ → List ℤ → List Activation → List Activation
with_array_in k depth elements [] = []
with_array_in k depth elements (a ∷ others) = if depth == suc (length others) then with_own k elements a ∷ others
    else a ∷ with_array_in k depth elements others

abbrev pub with_array : ArrayName → List ℤ → State → State
with_array outcome.Null elements s = s
with_array (outcome.Static k) elements s = record s { objects = slice_set s.objects k elements }
with_array (outcome.InFrame k depth) elements s = record s { active = with_array_in k depth elements s.active }
with_array outcome.Unknown elements s = s

-- the array that a function names, in its youngest call
abbrev pub array_of : State → ArrayRef → ArrayName
array_of s (refs.Static k) = outcome.Static k
array_of s (refs.Frame k) = outcome.InFrame k (length s.active)

-- ---- the start of a call

-- The parameters have the arguments, in their types (C99 6.5.2.2p7); every other local is 0 or null.
abbrev pub first_values : List Local → List Held → List Held
first_values [] arguments = []
first_values (l ∷ ls) [] = zero_of l.of ∷ first_values ls []
first_values (l ∷ ls) (a ∷ others) = in_type l.of a ∷ first_values ls others

abbrev pub first_array : LocalArray → List ℤ
first_array a = replicate a.count (pos 0)

-- ---- visits

-- the value of a part of the locals
abbrev pub number_held : Option Held → ℤ
number_held None = pos 0
number_held (Some (HoldsNumber n)) = n
number_held (Some (HoldsPointer array index)) = index

abbrev pub array_held : Option Held → ArrayName
array_held None = outcome.Unknown
array_held (Some (HoldsNumber n)) = outcome.Unknown
array_held (Some (HoldsPointer array index)) = array

abbrev pub part_value : List Held → Part → Value
part_value locals (outcome.Scalar v) = Number (number_held (slice_get locals v))
part_value locals (outcome.ArrayOf v) = outcome.Array (array_held (slice_get locals v))
part_value locals (outcome.IndexOf v) = Number (number_held (slice_get locals v))

-- A statement or declared item starts: it is visited, with the values of the parts that the listing names
-- for it.
abbrev pub visited : Listing → ℕ → State → State
visited listing statement s =
    record s {
      visits = s.visits ++ record {
        statement = statement;
        values = map (part_value (youngest s.active).values) (listing statement);
      } ∷ [];
    }

-- ---- how an evaluation comes out

-- It gives something and goes on from a state, or the program ends in a state: it ended, trapped, or has no
-- turn left.
pub data Evaluated (A : Type 0) : Type 0 where
  Gives : (value : A) (state : State) → Evaluated A
  Ends : (end : End) (state : State) → Evaluated A

abbrev pub and_then : {A B : Type 0} → Evaluated A → (A → State → Evaluated B) → Evaluated B
and_then (Gives value s) go = go value s
and_then (Ends end s) go = Ends end s

-- what is there, or a trap where nothing is
abbrev pub or_check : {A : Type 0} → Option A → State → Evaluated A
or_check None s = Ends (Trapped Check) s
or_check (Some value) s = Gives value s

-- A turn is taken; where none is left, the program still goes.
abbrev pub turn_with : {A : Type 0} → ℕ → State → (State → Evaluated A) → Evaluated A
turn_with zero s go = Ends Goes s
turn_with (suc turns) s go = go (record s { turns = turns })

abbrev pub take_turn : {A : Type 0} → State → (State → Evaluated A) → Evaluated A
take_turn s go = turn_with s.turns s go
