-- What each op does: one step from a state.
use Rattle.std.specs.Prelude.{ℕ, ◌+◌, ◌%◌, ◌^◌, ◌==◌, Bool, not, ℤ, pos, negsuc, ◌+ℤ◌, ◌-ℤ◌}
use Rattle.std.specs.Prelude.{◌*ℤ◌, neg_ℤ, int_lt, int_div, int_rem, List, [], ◌∷◌, ◌++◌, length, replicate, slice_get}
use Rattle.std.specs.Prelude.{Option, Some, None, nat_le, nat_lt, if◌then◌else◌}
use Rattle.std.specs.Int.{w8, w16, w32, int_wrap, int_bit_and, int_bit_or, int_bit_xor, int_bit_not}
use Rattle.std.specs.Ordering.{int_eq}
pub use Rattle.pcc_base.specs.Arithmetic.{no_quotient, no_unsigned_quotient, same_array, shift_count, shifted_right}
pub use Rattle.pcc_base.specs.Arithmetic.{shifted_unsigned, unsigned, unsigned_quotient, unsigned_remainder, with_bits}
use Rattle.pcc_base.specs.Outcome.{End, Ended, Trapped, ArrayName, Null, Static, InFrame, Value, Number, Array}
use Rattle.pcc_base.specs.declared.run.Trap.TheVariants.{Divide, Check}
use Rattle.flow_graph.specs.declared.op.Bits.{Bits}
use Rattle.flow_graph.specs.declared.op.Bits.TheVariants.{Eight, Sixteen, ThirtyTwo}
use Rattle.flow_graph.specs.declared.op.Comparison.{Comparison}
use Rattle.flow_graph.specs.declared.op.Comparison.TheVariants.{Eq, Ne, Lt, Le, Gt, Ge}
use Rattle.flow_graph.specs.declared.op.Order.{Order}
use Rattle.flow_graph.specs.declared.op.Order.TheVariants as order
use Rattle.flow_graph.specs.declared.op.Op.{Op}
use Rattle.flow_graph.specs.declared.op.Op.TheVariants as op
use Rattle.flow_graph.specs.Shapes.{Leads, Onward, IntoCall, ToBlock, ToEither, OutOfCall, OutOfProgram, shape}
use Rattle.flow_graph.specs.States.{GraphProgram, Waiting, State, op_of, op_at, entry_of, point_after, first_activation}
use Rattle.flow_graph.specs.States.{value_at, number_at, array_at, with_value, fitted, width_of, depth_of, Elements}
use Rattle.flow_graph.specs.States.{elements_of, with_array, element_at, with_element}

-- A step leads to a state, or the program ends, or the op's values don't fit.
pub data Moved : Type 0 where
  Moves : (state : State) → Moved
  Halts : (end : End) → Moved
  Stuck : Moved

-- ---- where a step leads

abbrev pub at_point : ℕ → State → Option ℕ → Moved
at_point block s None = Stuck
at_point block s (Some point) = Moves (record s { block = block; point = point })

-- to the next point of the block
abbrev pub onward : GraphProgram → State → Moved
onward program s = at_point s.block s (point_after program s.current.function s.block s.point)

-- to the first point of a block
abbrev pub into_block : GraphProgram → ℕ → State → Moved
into_block program block s = at_point block s (entry_of program s.current.function block)

-- ---- values that have to be there

abbrev pub given : {A : Type 0} → Option A → (A → Moved) → Moved
given None go = Stuck
given (Some value) go = go value

-- onward with a value in a variable
abbrev pub sets : GraphProgram → State → ℕ → Value → Moved
sets program s d value = onward program (with_value d value s)

abbrev pub one_number : GraphProgram → State → ℕ → ℕ → (ℤ → ℤ) → Moved
one_number program s d a f = given (number_at s a) (λ x. sets program s d (Number (f x)))

abbrev pub two_numbers : GraphProgram → State → ℕ → ℕ → ℕ → (ℤ → ℤ → ℤ) → Moved
two_numbers program s d a b f = given (number_at s a)
    (λ x. given (number_at s b) (λ y. sets program s d (Number (f x y))))

-- ---- arithmetic

-- a number of two others that traps for some of them
abbrev pub divided_unless : (ℤ → ℤ → Bool) → GraphProgram → State → ℕ → ℕ → ℕ → (ℤ → ℤ → ℤ) → Moved
divided_unless traps program s d a b f =
    given (number_at s a) (λ x. given (number_at s b) (λ y. if traps x y then Halts (Trapped Divide)
    else sets program s d (Number (f x y))))

abbrev pub divided : GraphProgram → State → ℕ → ℕ → ℕ → (ℤ → ℤ → ℤ) → Moved
divided program s d a b f = divided_unless no_quotient program s d a b f

-- ---- numbers without sign

-- the low 8 bits of a number, as a number from 0
abbrev pub low_byte : ℤ → ℕ
low_byte n = unsigned n % 256

-- a byte with zero bits above it
abbrev pub zero_extended : ℤ → ℤ
zero_extended n = pos (low_byte n)

abbrev pub ordered : Order → ℤ → ℤ → Bool
ordered order.Lt x y = nat_lt (unsigned x) (unsigned y)
ordered order.Le x y = nat_le (unsigned x) (unsigned y)
ordered order.Gt x y = nat_lt (unsigned y) (unsigned x)
ordered order.Ge x y = nat_le (unsigned y) (unsigned x)

-- ---- comparisons

abbrev pub compared : Comparison → ℤ → ℤ → Bool
compared Eq x y = int_eq x y
compared Ne x y = not (int_eq x y)
compared Lt x y = int_lt x y
compared Le x y = not (int_lt y x)
compared Gt x y = int_lt y x
compared Ge x y = not (int_lt x y)

abbrev pub both : {A B : Type 0} → Option A → Option A → (A → A → B) → Option B
both (Some x) (Some y) f = Some (f x y)
both _ _ f = None

-- arrays are only the same or not
abbrev pub arrays_compared : Comparison → Option ArrayName → Option ArrayName → Option Bool
arrays_compared Eq a b = both a b same_array
arrays_compared Ne a b = both a b (λ x y. not (same_array x y))
arrays_compared Lt a b = None
arrays_compared Le a b = None
arrays_compared Gt a b = None
arrays_compared Ge a b = None

abbrev pub first_of : {A : Type 0} → Option A → Option A → Option A
first_of (Some x) other = Some x
first_of None other = other

-- two numbers, or two values that are each an array or 0
abbrev pub comparison : Comparison → State → ℕ → ℕ → Option Bool
comparison how s a b = first_of (both (number_at s a) (number_at s b) (compared how))
    (arrays_compared how (array_at s a) (array_at s b))

-- two numbers without sign
abbrev pub ordering : Order → State → ℕ → ℕ → Option Bool
ordering how s a b = both (number_at s a) (number_at s b) (ordered how)

-- ---- accesses

-- the bytes of so many bits
abbrev pub bytes_of : Bits → ℕ
bytes_of Eight = 1
bytes_of Sixteen = 2
bytes_of ThirtyTwo = 4

-- a number as an element of so many bits holds it
abbrev pub stored : Bits → ℤ → ℤ
stored Eight n = int_wrap w8 n
stored Sixteen n = int_wrap w16 n
stored ThirtyTwo n = n

-- the array is there, with elements of so many bits
abbrev pub of_width : Bits → Elements → (List ℤ → Moved) → Moved
of_width bits array go = if array.0 == bytes_of bits then go array.1 else Stuck

-- an access of no array traps
abbrev pub accessed : GraphProgram → State → Bits → ArrayName → (List ℤ → Moved) → Moved
accessed program s bits Null go = Halts (Trapped Check)
accessed program s bits array go = given (elements_of program s array) (λ elements. of_width bits elements go)

-- an element outside the array traps
abbrev pub checked : Option ℤ → (ℤ → Moved) → Moved
checked None go = Halts (Trapped Check)
checked (Some n) go = go n

abbrev pub loads : GraphProgram → State → Bits → ℕ → ArrayName → ℤ → Moved
loads program s bits d array i = accessed program s bits array
    (λ elements. checked (element_at elements i) (λ n. sets program s d (Number n)))

abbrev pub stores : GraphProgram → State → Bits → ArrayName → ℤ → ℤ → Moved
stores program s bits array i n =
    accessed program s bits array (λ elements.
    checked (element_at elements i) (λ old.
    onward program (with_array array (with_element elements i (stored bits n)) s)))

-- element 0 of a static object; one without elements has none
abbrev pub scalar_of : GraphProgram → State → Bits → ℕ → (List ℤ → ℤ → Moved) → Moved
scalar_of program s bits k go =
    given (elements_of program s (Static k))
    (λ elements. of_width bits elements (λ numbers. given (slice_get numbers 0) (go numbers)))

abbrev pub gets_scalar : GraphProgram → State → Bits → ℕ → ℕ → Moved
gets_scalar program s bits d k = scalar_of program s bits k (λ numbers n. sets program s d (Number n))

abbrev pub puts_scalar : GraphProgram → State → Bits → ℕ → ℤ → Moved
puts_scalar program s bits k n = scalar_of program s bits k
    (λ numbers old. onward program (with_array (Static k) (with_element numbers (pos 0) (stored bits n)) s))

-- the frame array becomes zero
abbrev pub clears : GraphProgram → State → ℕ → Moved
clears program s k =
    given (slice_get s.current.arrays k)
    (λ elements. onward program (with_array (InFrame k (depth_of s)) (replicate (length elements) (pos 0)) s))

-- ---- calls

-- at most so many calls are active at once
abbrev pub most_active : ℕ
most_active = 4096

abbrev pub one_more : Option Value → Option (List Value) → Option (List Value)
one_more (Some x) (Some xs) = Some (x ∷ xs)
one_more _ _ = None

abbrev pub values_at : State → List ℕ → Option (List Value)
values_at s [] = Some []
values_at s (v ∷ vs) = one_more (value_at s v) (values_at s vs)

-- the call's own state, at the function's first point
abbrev pub enters : GraphProgram → State → ℕ → List Value → Moved
enters program s f arguments =
    into_block program 0 (record s {
      current = first_activation program f arguments;
      waiting = record { activation = s.current; block = s.block; point = s.point } ∷ s.waiting;
    })

abbrev pub calls : GraphProgram → State → ℕ → List ℕ → Moved
calls program s f arguments =
    given (values_at s arguments) (λ values. if nat_le most_active (depth_of s) then Halts (Trapped Check)
    else enters program s f values)

-- the state of the caller, at its call
abbrev pub back_to : State → Waiting → List Waiting → State
back_to s w waiting = record s { block = w.block; point = w.point; current = w.activation; waiting = waiting }

-- A caller goes on after its call, with the result where it wants one. A call that wants a result that isn't there, and
-- where no call waits, no step is.
abbrev pub resumes : GraphProgram → State → Leads → Option ℤ → Moved
resumes program s (IntoCall None words) n = onward program s
resumes program s (IntoCall (Some d) words) None = Stuck
resumes program s (IntoCall (Some d) words) (Some n) = sets program s d (Number n)
resumes program s Onward n = Stuck
resumes program s (ToBlock x) n = Stuck
resumes program s (ToEither x y) n = Stuck
resumes program s OutOfCall n = Stuck
resumes program s OutOfProgram n = Stuck

-- the caller goes on after its call, whose op this is
abbrev pub result_to : GraphProgram → State → Option ℤ → Option Op → Moved
result_to program s n None = Stuck
result_to program s n (Some op) = resumes program s (shape op).leads n

-- The exit status is the low 8 bits of what the first call returns (C99 5.1.2.2.3).
abbrev pub ends_program : Option ℤ → Moved
ends_program None = Stuck
ends_program (Some n) = Halts (Ended (low_byte n))

abbrev pub returns_to : GraphProgram → State → List Waiting → Option ℤ → Moved
returns_to program s [] n = ends_program n
returns_to program s (w ∷ waiting) n = result_to program (back_to s w waiting) n
    (op_of program w.activation.function w.point)

-- ---- the outside

abbrev pub puts : GraphProgram → State → ℕ → ℤ → Moved
puts program s d n = sets program (record s { written = s.written ++ low_byte n ∷ [] }) d (Number (pos (low_byte n)))

-- the next byte of the input, or -1 at its end
abbrev pub gets : GraphProgram → State → ℕ → List ℕ → Moved
gets program s d [] = sets program s d (Number (negsuc 0))
gets program s d (byte ∷ bytes) = sets program (record s { left = bytes; taken = s.taken + 1 }) d (Number (pos byte))

-- ---- the ops

abbrev pub act : GraphProgram → State → Op → Moved
act program s (op.Const d n) = sets program s d (Number (fitted (width_of program s d) n))
act program s (op.Copy d a) = given (value_at s a) (sets program s d)
act program s (op.Wide d a) = one_number program s d a (λ n. n)
act program s (op.Zero d a) = one_number program s d a zero_extended
act program s (op.Low d a) = one_number program s d a (int_wrap w8)
act program s (op.Low16 d a) = one_number program s d a (int_wrap w16)
act program s (op.Neg d a) = one_number program s d a (λ n. int_wrap w32 (neg_ℤ n))
act program s (op.Not d a) = one_number program s d a (int_bit_not w32)
act program s (op.Add d a b) = two_numbers program s d a b (λ x y. int_wrap w32 (x +ℤ y))
act program s (op.Sub d a b) = two_numbers program s d a b (λ x y. int_wrap w32 (x -ℤ y))
act program s (op.Mul d a b) = two_numbers program s d a b (λ x y. int_wrap w32 (x *ℤ y))
act program s (op.And d a b) = two_numbers program s d a b (int_bit_and w32)
act program s (op.Or d a b) = two_numbers program s d a b (int_bit_or w32)
act program s (op.Xor d a b) = two_numbers program s d a b (int_bit_xor w32)
act program s (op.Shl d a c) = two_numbers program s d a c (λ x y. int_wrap w32 (x *ℤ pos (2 ^ shift_count y)))
act program s (op.Sar d a c) = two_numbers program s d a c (λ x y. shifted_right x (shift_count y))
act program s (op.Shr d a c) = two_numbers program s d a c (λ x y. shifted_unsigned x (shift_count y))
act program s (op.Div d a b) = divided program s d a b int_div
act program s (op.Rem d a b) = divided program s d a b int_rem
act program s (op.Udiv d a b) = divided_unless no_unsigned_quotient program s d a b unsigned_quotient
act program s (op.Urem d a b) = divided_unless no_unsigned_quotient program s d a b unsigned_remainder
act program s (op.Set how d a b) = given (comparison how s a b)
    (λ holds. sets program s d (Number (if holds then pos 1 else pos 0)))
act program s (op.Setu how d a b) = given (ordering how s a b)
    (λ holds. sets program s d (Number (if holds then pos 1 else pos 0)))
act program s (op.Frame d k) = sets program s d (Array (InFrame k (depth_of s)))
act program s (op.Static d k) = sets program s d (Array (Static k))
act program s (op.Load bits d p i) = given (array_at s p)
    (λ array. given (number_at s i) (loads program s bits d array))
act program s (op.Store bits p i a) =
    given (array_at s p) (λ array. given (number_at s i)
    (λ index. given (number_at s a) (stores program s bits array index)))
act program s (op.Get bits d k) = gets_scalar program s bits d k
act program s (op.Put bits k a) = given (number_at s a) (puts_scalar program s bits k)
act program s (op.Clear k) = clears program s k
act program s (op.Param d k) = given (slice_get s.current.arguments k) (sets program s d)
act program s (op.Call d f arguments) = calls program s f arguments
act program s (op.Putchar d a) = given (number_at s a) (puts program s d)
act program s (op.Getchar d) = gets program s d s.left
act program s (op.Exit a) = given (number_at s a) (λ n. Halts (Ended (low_byte n)))
act program s (op.Same a b) = given (comparison Eq s a b) (λ holds. if holds then onward program s
    else Halts (Trapped Check))
act program s (op.Mark statement) = onward program s
act program s op.Turn = onward program s
act program s (op.Jump x) = into_block program x s
act program s (op.Branch how a b x y) = given (comparison how s a b)
    (λ holds. into_block program (if holds then x else y) s)
act program s (op.Branchu how a b x y) = given (ordering how s a b)
    (λ holds. into_block program (if holds then x else y) s)
act program s (op.Return (Some a)) = given (number_at s a) (λ n. returns_to program s s.waiting (Some n))
act program s (op.Return None) = returns_to program s s.waiting None

-- one step
abbrev pub step : GraphProgram → State → Moved
step program s = given (op_at program s) (act program s)
