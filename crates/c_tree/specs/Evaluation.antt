-- What a program does in a number of turns (C99 5.1.2.3, 6.5 and 6.8). A turn is each start of a loop's test
-- or of a `do` body, and each call of a defined function, that of `main` included. Operands and arguments are
-- evaluated from the left to the right.
use Rattle.std.specs.Prelude.{ℕ, zero, suc, ◌+◌, ◌%◌, Bool, true, false, ℤ, pos, List, [], ◌∷◌, ◌++◌, length, map}
use Rattle.std.specs.Prelude.{replicate, slice_get, Option, Some, None, nat_le, if◌then◌else◌}
use Rattle.std.specs.Int.{w32, cast_unsigned}
use Rattle.std.specs.Ordering.{int_eq}
use Rattle.pcc_base.specs.Outcome.{End, Ended, Trapped, Goes, ArrayName, Static, Listing, Outcome}
use Rattle.pcc_base.specs.declared.run.Trap.TheVariants.{Check}
use Rattle.c_tree.specs.declared.expression.BinaryOp.{BinaryOp}
use Rattle.c_tree.specs.declared.expression.BinaryOp.TheVariants.{Add}
use Rattle.c_tree.specs.declared.statement.Label.{Label}
use Rattle.c_tree.specs.declared.types.IntegerType.{IntegerType}
use Rattle.c_tree.specs.declared.types.IntegerType.TheVariants.{Int}
use Rattle.c_tree.specs.declared.types.ValueType.{ValueType}
use Rattle.c_tree.specs.declared.types.ValueType.TheVariants.{Integer}
use Rattle.c_tree.specs.Operators.{Computed, Computes, Traps, is_true, unary_value, binary_value, working_type, step_op}
use Rattle.c_tree.specs.Operators.{step_type, step_result}
use Rattle.c_tree.specs.Program.{Expression, Constant, Start, Read, Address, Unary, Binary, And, Or, Conditional, Cast}
use Rattle.c_tree.specs.Program.{Assign, Update, Step, Comma, Call, Putchar, Getchar, Exit, Place, LocalPlace}
use Rattle.c_tree.specs.Program.{StaticPlace, Target, Element, Arguments, NoMore, Argument, Initialiser, Elements, Text}
use Rattle.c_tree.specs.Program.{Item, Scalar, Array, First, Nothing, Evaluated as EvaluatedFirst, Declared, Statement}
use Rattle.c_tree.specs.Program.{Declare, Empty, Evaluate, Block, If, While, Do, For, Switch, Break, Continue, Return}
use Rattle.c_tree.specs.Program.{Statements, Done, Next, Local, Function, Program, value_type}
use Rattle.c_tree.specs.Store.{Held, HoldsNumber, HoldsPointer, converted, in_type, zero_of, Activation, State, held}
use Rattle.c_tree.specs.Store.{with_local, array_named, with_array, array_of, element_at, with_element, first_values}
use Rattle.c_tree.specs.Store.{first_array, visited, Evaluated, Gives, Ends, and_then, take_turn}

-- ---- places

-- a place, once it is found: a local, a static object that is no array, or the element of an array at an
-- index. The array may be none, and the index outside it: an access then traps.
pub data Found : Type 0 where
  InLocal : (local : ℕ) → Found
  InObject : (object : ℕ) → Found
  AtIndex : (array : ArrayName) (index : ℤ) → Found

-- the element that a pointer goes to; nothing but a pointer comes of a typed program
abbrev pub target_of : Held → Found
target_of (HoldsPointer array index) = AtIndex array index
target_of (HoldsNumber n) = AtIndex ArrayName.Unknown n

abbrev pub address_of : Found → Held
address_of (AtIndex array index) = HoldsPointer array index
address_of (InLocal local) = HoldsNumber (pos 0)
address_of (InObject object) = HoldsNumber (pos 0)

-- the element that is read, where there is one
abbrev pub element_read : State → Option ℤ → Evaluated Held
element_read s None = Ends (Trapped Check) s
element_read s (Some n) = Gives (HoldsNumber n) s

abbrev pub load : Found → State → Evaluated Held
load (InLocal local) s = Gives (held s local) s
load (InObject object) s = element_read s (element_at (array_named s (Static object)) (pos 0))
load (AtIndex array index) s = element_read s (element_at (array_named s array) index)

abbrev pub number_in : Held → ℤ
number_in (HoldsNumber n) = n
number_in (HoldsPointer array index) = pos 0

-- the element at an index has another value, where there is one
abbrev pub element_written : ArrayName → ℤ → Held → State → Option ℤ → Evaluated Held
element_written array index value s None = Ends (Trapped Check) s
element_written array index value s (Some old) =
    Gives value (with_array array (with_element (array_named s array) index (number_in value)) s)

abbrev pub store : Found → Held → State → Evaluated Held
store (InLocal local) value s = Gives value (with_local local value s)
store (InObject object) value s = element_written (Static object) (pos 0) value s
    (element_at (array_named s (Static object)) (pos 0))
store (AtIndex array index) value s = element_written array index value s (element_at (array_named s array) index)

-- ---- the outside (C99 7.19 and 7.20)

-- what an operator gives, or its trap
abbrev pub computed : Computed → State → Evaluated Held
computed (Computes value) s = Gives value s
computed (Traps trap) s = Ends (Trapped trap) s

abbrev pub low_byte : Held → ℕ
low_byte value = cast_unsigned w32 (number_in value) % 256

-- `putchar` writes the low byte, and gives it
abbrev pub put : Held → State → Evaluated Held
put value s = Gives (HoldsNumber (pos (low_byte value))) (record s { written = s.written ++ low_byte value ∷ [] })

-- `getchar` takes the next byte of the input and gives it, or -1 at its end
abbrev pub get_from : List ℕ → State → Evaluated Held
get_from [] s = Gives (HoldsNumber (ℤ.negsuc 0)) s
get_from (byte ∷ bytes) s = Gives (HoldsNumber (pos byte)) (record s { left = bytes; taken = s.taken + 1 })

-- ---- expressions

-- what a call of a function does with its arguments
abbrev pub Calls : Type 0
Calls = ℕ → List Held → State → Evaluated Held

abbrev pub truth_value : Bool → Held
truth_value b = HoldsNumber (if b then pos 1 else pos 0)

-- an assignment with an operator, which works in a type: the place is found and loaded, then comes the right side, then
-- the store
abbrev pub updated : ValueType → IntegerType → BinaryOp → Found → Held → Held → State → Evaluated Held
updated of within op found old value s = and_then (computed (binary_value within op old value) s)
    (λ new s'. store found (in_type of new) s')

abbrev mutual
  pub evaluate : Calls → Expression → State → Evaluated Held
  evaluate calls (Constant of n) s = Gives (HoldsNumber (converted of n)) s
  evaluate calls (Start element array) s = Gives (HoldsPointer (array_of s array) (pos 0)) s
  evaluate calls (Read of place) s = and_then (locate calls place s) load
  evaluate calls (Address element place) s = and_then (locate calls place s) (λ found s'. Gives (address_of found) s')
  evaluate calls (Unary of op e) s = and_then (evaluate calls e s) (λ v s'. Gives (unary_value of op v) s')
  evaluate calls (Binary of op a b) s =
      and_then (evaluate calls a s) (λ x s'.
      and_then (evaluate calls b s') (λ y s''.
      computed (binary_value (working_type op (value_type a) (value_type b)) op x y) s''))
  evaluate calls (And a b) s =
      and_then (evaluate calls a s) (λ x s'. if is_true x
      then and_then (evaluate calls b s') (λ y s''. Gives (truth_value (is_true y)) s'')
      else Gives (truth_value false) s')
  evaluate calls (Or a b) s =
      and_then (evaluate calls a s) (λ x s'. if is_true x then Gives (truth_value true) s'
      else and_then (evaluate calls b s') (λ y s''. Gives (truth_value (is_true y)) s''))
  evaluate calls (Conditional of t a b) s =
      and_then (evaluate calls t s) (λ v s'.
      and_then (if is_true v then evaluate calls a s' else evaluate calls b s') (λ x s''. Gives (in_type of x) s''))
  evaluate calls (Cast to e) s = and_then (evaluate calls e s) (λ v s'. Gives (in_type to v) s')
  evaluate calls (Assign of place e) s =
      and_then (locate calls place s) (λ found s'.
      and_then (evaluate calls e s') (λ v s''. store found (in_type of v) s''))
  evaluate calls (Update of op place e) s =
      and_then (locate calls place s) (λ found s'.
      and_then (load found s') (λ old s''. and_then (evaluate calls e s'')
      (updated of (working_type op of (value_type e)) op found old)))
  evaluate calls (Step of op place) s =
      and_then (locate calls place s) (λ found s'.
      and_then (load found s') (λ old s''.
      and_then (updated of (step_type op of) (step_op op) found old (HoldsNumber (pos 1)) s'')
      (λ new s'''. Gives (step_result op old new) s''')))
  evaluate calls (Comma a b) s = and_then (evaluate calls a s) (λ x s'. evaluate calls b s')
  evaluate calls (Call of f arguments) s = and_then (evaluate_all calls arguments s) (calls f)
  evaluate calls (Putchar e) s = and_then (evaluate calls e s) put
  evaluate calls Getchar s = get_from s.left s
  evaluate calls (Exit e) s = and_then (evaluate calls e s) (λ v s'. Ends (Ended (low_byte v)) s')

  pub locate : Calls → Place → State → Evaluated Found
  locate calls (LocalPlace v) s = Gives (InLocal v) s
  locate calls (StaticPlace k) s = Gives (InObject k) s
  locate calls (Target element e) s = and_then (evaluate calls e s) (λ v s'. Gives (target_of v) s')
  locate calls (Element element a i) s =
      and_then (evaluate calls a s) (λ x s'.
      and_then (evaluate calls i s') (λ y s''.
      and_then (computed (binary_value Int Add x y) s'') (λ v s'''. Gives (target_of v) s''')))

  pub evaluate_all : Calls → Arguments → State → Evaluated (List Held)
  evaluate_all calls NoMore s = Gives [] s
  evaluate_all calls (Argument e others) s =
      and_then (evaluate calls e s) (λ v s'. and_then (evaluate_all calls others s') (λ vs s''. Gives (v ∷ vs) s''))

-- ---- declared items (C99 6.7.8)

-- The elements of an array, in order from a place on. Each is converted to their type, as an assignment to it is
-- (C99 6.7.8p11 and 6.5.16.1p2).
abbrev pub fill : Calls → ArrayName → IntegerType → ℕ → List Expression → State → Evaluated Unit
fill calls array element i [] s = Gives tt s
fill calls array element i (e ∷ es) s =
    and_then (evaluate calls e s) (λ v s'.
    and_then (store (AtIndex array (pos i)) (in_type (Integer element) v) s')
    (λ stored s''. fill calls array element (suc i) es s''))

-- a text's elements, and zeros after them
abbrev pub text_then_zeros : List ℤ → List ℤ → List ℤ
text_then_zeros [] text = []
text_then_zeros (n ∷ ns) [] = pos 0 ∷ text_then_zeros ns []
text_then_zeros (n ∷ ns) (c ∷ cs) = c ∷ text_then_zeros ns cs

abbrev pub initialise : Calls → ArrayName → IntegerType → Initialiser → State → Evaluated Unit
initialise calls array element (Elements first) s = fill calls array element 0 first s
initialise calls array element (Text k) s = Gives tt
    (with_array array (text_then_zeros (array_named s array) (array_named s (Static k))) s)

-- A local is 0 or null, and an array zero, each time its declaration runs, before its initialiser is
-- evaluated.
abbrev pub initialise_local : Calls → ℕ → ValueType → Option Expression → State → Evaluated Unit
initialise_local calls local of None s = Gives tt s
initialise_local calls local of (Some e) s = and_then (evaluate calls e s)
    (λ v s'. Gives tt (with_local local (in_type of v) s'))

abbrev pub zeroed : List ℤ → List ℤ
zeroed elements = replicate (length elements) (pos 0)

-- the types of the function's locals
abbrev pub Types : Type 0
Types = ℕ → ValueType

-- an array of the youngest call
abbrev pub own_array : State → ℕ → ArrayName
own_array s k = ArrayName.InFrame k (length s.active)

abbrev pub declare : Calls → Listing → Types → Item → State → Evaluated Unit
declare calls listing types (Scalar number local value) s =
    initialise_local calls local (types local) value
    (with_local local (zero_of (types local)) (visited listing number s))
declare calls listing types (Array number k element value) s =
    initialise calls (own_array s k) element value
    (with_array (own_array s k) (zeroed (array_named s (own_array s k))) (visited listing number s))

abbrev pub declare_all : Calls → Listing → Types → List Item → State → Evaluated Unit
declare_all calls listing types [] s = Gives tt s
declare_all calls listing types (item ∷ items) s = and_then (declare calls listing types item s)
    (λ done s'. declare_all calls listing types items s')

-- ---- statements (C99 6.8)

-- how a statement is left: it goes on to the next one, breaks, continues, or returns, with a value or none
pub data Left : Type 0 where
  Falls : Left
  Breaks : Left
  Continues : Left
  Returns : (value : Option Held) → Left

abbrev pub Runs : Type 0
Runs = State → Evaluated Left

-- the next statement runs where this one goes on to it
abbrev pub after_statement : Runs → Left → State → Evaluated Left
after_statement next Falls s = next s
after_statement next Breaks s = Gives Breaks s
after_statement next Continues s = Gives Continues s
after_statement next (Returns value) s = Gives (Returns value) s

-- what comes after the body of a loop
abbrev pub after_body : Runs → Left → State → Evaluated Left
after_body next Falls s = next s
after_body next Breaks s = Gives Falls s
after_body next Continues s = next s
after_body next (Returns value) s = Gives (Returns value) s

-- what comes after the body of a switch
abbrev pub after_switch : Left → State → Evaluated Left
after_switch Falls s = Gives Falls s
after_switch Breaks s = Gives Falls s
after_switch Continues s = Gives Continues s
after_switch (Returns value) s = Gives (Returns value) s

-- A `while` or `for`: each test takes a turn. It goes over a bound above the turns: what still goes has then no turn
-- left, and every such bound makes the same of it (proved in `c_eval_laws`).
abbrev pub loop : ℕ → (State → Evaluated Bool) → Runs → Runs → Runs
loop zero test body after s = Ends Goes s
loop (suc bound) test body after s =
    take_turn s (λ s'. and_then (test s') (λ holds s''. if holds
    then and_then (body s'') (after_body (λ t. and_then (after t) (λ left t'. loop bound test body after t')))
    else Gives Falls s''))

-- A `do`: each start of its body takes a turn.
abbrev pub do_loop : ℕ → (State → Evaluated Bool) → Runs → Runs
do_loop zero test body s = Ends Goes s
do_loop (suc bound) test body s =
    take_turn s (λ s'. and_then (body s')
    (after_body (λ t. and_then (test t) (λ holds t'. if holds then do_loop bound test body t' else Gives Falls t'))))

abbrev pub tested : Calls → Expression → State → Evaluated Bool
tested calls e s = and_then (evaluate calls e s) (λ v s'. Gives (is_true v) s')

-- a `for` without a test has one that holds
abbrev pub tested_if_any : Calls → Option Expression → State → Evaluated Bool
tested_if_any calls None s = Gives true s
tested_if_any calls (Some e) s = tested calls e s

abbrev pub evaluated_if_any : Calls → Option Expression → Runs
evaluated_if_any calls None s = Gives Falls s
evaluated_if_any calls (Some e) s = and_then (evaluate calls e s) (λ v s'. Gives Falls s')

abbrev pub run_first : Calls → Listing → Types → First → Runs
run_first calls listing types Nothing s = Gives Falls s
run_first calls listing types (EvaluatedFirst e) s = and_then (evaluate calls e s) (λ v s'. Gives Falls s')
run_first calls listing types (Declared items) s = and_then (declare_all calls listing types items s)
    (λ done s'. Gives Falls s')

abbrev pub returned : ValueType → Calls → Option Expression → State → Evaluated Left
returned result calls None s = Gives (Returns None) s
returned result calls (Some e) s = and_then (evaluate calls e s) (λ v s'. Gives (Returns (Some (in_type result v))) s')

-- where a switch goes to: the `case` with the value, else the `default`, else past its end
abbrev pub is_case : ℤ → Option ℤ → Bool
is_case n None = false
is_case n (Some value) = int_eq n value

abbrev pub is_default : Option ℤ → Bool
is_default None = true
is_default (Some value) = false

abbrev pub first_label : (Option ℤ → Bool) → List Label → Option ℕ
first_label chosen [] = None
first_label chosen (label ∷ labels) = if chosen label.value then Some label.before else first_label chosen labels

abbrev pub or_else : Option ℕ → Option ℕ → Option ℕ
or_else None other = other
or_else (Some place) other = Some place

abbrev pub switched : List Label → Held → Option ℕ
switched labels value = or_else (first_label (is_case (number_in value)) labels) (first_label is_default labels)

abbrev pub none_or_from : Option ℕ → (ℕ → Runs) → Runs
none_or_from None from s = Gives Falls s
none_or_from (Some place) from s = from place s

-- what is the same throughout a function's body: what calls do, the bound of loops, what visits show, the types of the
-- function's locals, and the type that it returns
pub record Setting : Type 0 where
  pub calls : Calls
  pub bound : ℕ
  pub listing : Listing
  pub types : Types
  pub result : ValueType

abbrev mutual
  pub execute : Setting → Statement → Runs
  execute within (Declare item) s = and_then (declare within.calls within.listing within.types item s)
      (λ done s'. Gives Falls s')
  execute within (Empty n) s = Gives Falls (visited within.listing n s)
  execute within (Evaluate n e) s = and_then (evaluate within.calls e (visited within.listing n s))
      (λ v s'. Gives Falls s')
  execute within (Block body) s = execute_from within body 0 s
  execute within (If n e a b) s = and_then (tested within.calls e (visited within.listing n s))
      (λ holds s'. if holds then execute within a s' else execute within b s')
  execute within (While n e body) s = loop within.bound (tested within.calls e) (execute within body)
      (λ t. Gives Falls t) (visited within.listing n s)
  execute within (Do n body e) s = do_loop within.bound (tested within.calls e) (execute within body)
      (visited within.listing n s)
  execute within (For n first test after body) s =
      and_then (run_first within.calls within.listing within.types first (visited within.listing n s))
      (λ done s'. loop within.bound (tested_if_any within.calls test) (execute within body)
      (evaluated_if_any within.calls after) s')
  execute within (Switch n e labels body) s = and_then (evaluate within.calls e (visited within.listing n s))
      (λ v s'. and_then (none_or_from (switched labels v) (execute_from within body) s') after_switch)
  execute within (Break n) s = Gives Breaks (visited within.listing n s)
  execute within (Continue n) s = Gives Continues (visited within.listing n s)
  execute within (Return n value) s = returned within.result within.calls value (visited within.listing n s)

  -- the statements from a place on
  pub execute_from : Setting → Statements → ℕ → Runs
  execute_from within Done place s = Gives Falls s
  execute_from within (Next first others) zero s =
      and_then (execute within first s) (after_statement (execute_from within others 0))
  execute_from within (Next first others) (suc place) s = execute_from within others place s

-- ---- calls (C99 6.5.2.2) and programs

-- at most so many calls of defined functions are active at once
abbrev pub most_active : ℕ
most_active = 4096

abbrev pub type_of : Option Local → ValueType
type_of None = ValueType.Void
type_of (Some l) = l.of

abbrev pub type_at : Function → Types
type_at f local = type_of (slice_get f.locals local)

-- A function that falls off its end, or returns no value, gives 0.
abbrev pub value_left : Left → Held
value_left (Returns (Some value)) = value
value_left _ = HoldsNumber (pos 0)

abbrev pub older : List Activation → List Activation
older [] = []
older (a ∷ others) = others

-- the youngest call is over
abbrev pub call_over : Left → State → Evaluated Held
call_over left s = Gives (value_left left) (record s { active = older s.active })

abbrev pub first_activation : Function → List Held → Activation
first_activation f arguments = record { values = first_values f.locals arguments; arrays = map first_array f.arrays }

-- The arguments are there; a call too many traps, and only then a turn is taken.
abbrev pub enter : Function → List Held → Runs → State → Evaluated Held
enter f arguments body s =
    if nat_le most_active (length s.active) then Ends (Trapped Check) s
    else take_turn s (λ s'. and_then (body (record s' { active = first_activation f arguments ∷ s'.active })) call_over)

abbrev pub run_function : Calls → ℕ → Listing → Option Function → List Held → State → Evaluated Held
run_function calls bound listing None arguments s = Gives (HoldsNumber (pos 0)) s
run_function calls bound listing (Some f) arguments s =
    let within : Setting = record {
      calls = calls;
      bound = bound;
      listing = listing;
      types = type_at f;
      result = f.result;
    } in
    enter f arguments (execute_from within f.body 0) s

-- Calls within calls go over a bound above the turns: what still goes has then no turn left, and every such bound makes
-- the same of it (proved in `c_eval_laws`).
abbrev pub call_within : ℕ → Program → Listing → Calls
call_within zero program listing f arguments s = Ends Goes s
call_within (suc bound) program listing f arguments s =
    run_function (call_within bound program listing) (suc bound) listing (slice_get program.functions f) arguments s

-- The exit status is the low 8 bits of what `main` returns.
abbrev pub outcome_at : End → State → Outcome
outcome_at end s = record { visits = s.visits; taken = s.taken; written = s.written; end = end }

abbrev pub outcome_of : Evaluated Held → Outcome
outcome_of (Gives value s) = outcome_at (Ended (low_byte value)) s
outcome_of (Ends end s) = outcome_at end s

abbrev pub first_state : Program → List ℕ → ℕ → State
first_state program input n =
    record {
      turns = n;
      left = input;
      taken = 0;
      written = [];
      visits = [];
      objects = map (λ o. o.elements) program.objects;
      active = [];
    }

-- the outcome of n turns of the program over an input, with the visits that a listing asks for
abbrev pub source_outcome : Program → Listing → List ℕ → ℕ → Outcome
source_outcome program listing input n =
    outcome_of (call_within (suc n) program listing program.main [] (first_state program input n))
