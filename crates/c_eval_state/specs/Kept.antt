-- What a store holds, as a part of the state of the source meaning, and how vectors stand for it.
use Rattle.std.specs.Prelude.{ℕ, zero, suc, ◌≡◌, ◌+◌, ◌≤◌, ℤ, List, [], ◌∷◌, length, take, drop, slice_index_or, pos}
use Rattle.std.specs.Prelude.{Bool, true, false, Option, Some, None, nat_lt, if◌then◌else◌}
use Rattle.pcc_base.specs.Outcome.{ArrayName, Trapped}
use Rattle.pcc_base.specs.declared.run.Trap.TheVariants.{Check}
use Rattle.c_tree.specs.Program.{Function}
use Rattle.c_tree.specs.declared.types.ValueType.{ValueType}
use Rattle.c_tree.specs.Store.{Held, Activation, State, Evaluated, Gives, Ends, zero_of, in_type, array_named}
use Rattle.c_tree.specs.Store.{with_array, element_at, with_element}
use Rattle.c_tree.specs.Evaluation.{first_activation, most_active, older}
use Rattle.c_eval_state.specs.declared.calls.Call.{Call}

-- the static objects, and the active calls, the youngest first
pub record Kept : Type 0 where
  pub objects : List (List ℤ)
  pub active : List Activation

-- the state with this kept, whose turns, streams and visits are those of another
abbrev pub over : State → Kept → State
over s kept = record s { objects = kept.objects; active = kept.active }

abbrev pub no_call : Call
no_call = record { locals = 0; arrays = 0; count = 0 }

-- the call of a place, which is one less than its depth
abbrev pub call_at : List Call → ℕ → Call
call_at calls place = slice_index_or calls place no_call

-- The first so many active calls, the youngest first: each has the locals and arrays from its own on, up to those of
-- the next younger one.
abbrev pub active_in : List Call → ℕ → List Held → List (List ℤ) → List Activation
active_in calls zero values arrays = []
active_in calls (suc n) values arrays =
    record { values = drop (call_at calls n).locals values; arrays = drop (call_at calls n).arrays arrays }
    ∷ active_in calls n (take (call_at calls n).locals values) (take (call_at calls n).arrays arrays)

-- each call's locals and arrays begin within those there are, and it has as many arrays as it says
abbrev pub AreCalls : List Call → ℕ → ℕ → ℕ → Type 0
AreCalls calls zero values arrays = Unit {0}
AreCalls calls (suc n) values arrays =
    ((call_at calls n).locals ≤ values)
    × ((call_at calls n).arrays + (call_at calls n).count ≡ arrays)
    × AreCalls calls n (call_at calls n).locals (call_at calls n).arrays

-- what the vectors of a store always keep: where calls begin, and how many may be active
pub record IsKept (calls : List Call) (values arrays : ℕ) : Type 0 where
  pub nested : AreCalls calls (length calls) values arrays
  pub few : length calls ≤ most_active

-- what a local of the type holds first: its argument in the type, or 0 or null where there is none
abbrev pub first_value : ValueType → Option Held → Held
first_value of None = zero_of of
first_value of (Some argument) = in_type of argument

-- the place of an element in an array, which an index below 0 has not
abbrev pub index_of : ℤ → Option ℕ
index_of (pos i) = Some i
index_of (ℤ.negsuc i) = None

-- the number of an array of a call among all, where the call has it
abbrev pub array_in : Call → ℕ → Option ℕ
array_in call array = if nat_lt array call.count then Some (call.arrays + array) else None

-- the number of an array of the call of a depth among those of all active calls, where there is one
abbrev pub frame_array : List Call → ℕ → ℕ → Option ℕ
frame_array calls array zero = None
frame_array calls array (suc place) = if nat_lt place (length calls) then array_in (call_at calls place) array else None

-- ---- what calls leave

-- a call of a function begins, and the youngest one ends (C99 6.5.2.2)
abbrev pub entered : Function → List Held → State → State
entered f arguments s = record s { active = first_activation f arguments ∷ s.active }

abbrev pub returned : State → State
returned s = record s { active = older s.active }

-- an element has another value, or there is none and nothing is changed
abbrev pub Written : State → State → ArrayName → ℤ → ℤ → Bool → Type 0
Written s t array index value true =
    (old : ℤ) × (element_at (array_named s array) index ≡ Some old)
    × (t ≡ with_array array (with_element (array_named s array) index value) s)
Written s t array index value false = (element_at (array_named s array) index ≡ None) × (t ≡ s)

-- what a store gives, or its trap
abbrev pub stored : Bool → Held → State → Evaluated Held
stored true value s = Gives value s
stored false value s = Ends (Trapped Check) s
