-- A step of the machine of tasks: what is to be done is taken apart, or done.
use Rattle.std.specs.Prelude.{ℕ, zero, suc, pos, Bool, true, false, List, [], ◌∷◌, length, nat_le, Option, Some}
use Rattle.std.specs.Prelude.{None, slice_get, if◌then◌else◌}
use Rattle.pcc_base.specs.Outcome.{Ended, Trapped, Static, Listing, Outcome}
use Rattle.pcc_base.specs.declared.run.Trap.TheVariants.{Check}
use Rattle.c_tree.specs.declared.expression.BinaryOp.TheVariants.{Add}
use Rattle.c_tree.specs.declared.types.IntegerType.TheVariants.{Int}
use Rattle.c_tree.specs.declared.types.ValueType.{ValueType}
use Rattle.c_tree.specs.declared.types.ValueType.TheVariants.{Integer}
use Rattle.c_tree.specs.Evaluation.{Found, InLocal, InObject, AtIndex, target_of, address_of, load, store, computed}
use Rattle.c_tree.specs.Evaluation.{low_byte, put, get_from, truth_value, updated, text_then_zeros, zeroed, own_array}
use Rattle.c_tree.specs.Evaluation.{switched, most_active, type_at, older, first_activation}
use Rattle.c_tree.specs.Operators.{is_true, unary_value, binary_value, working_type, step_op, step_type, step_result}
use Rattle.c_tree.specs.Program.{Expression, Constant, Start, Read, Address, Unary, Binary, And, Or, Conditional, Cast}
use Rattle.c_tree.specs.Program.{Assign, Update, Step, Comma, Call, Putchar, Getchar, Exit, Place, LocalPlace}
use Rattle.c_tree.specs.Program.{StaticPlace, Target, Element, Arguments, NoMore, Argument, Elements, Text, Item}
use Rattle.c_tree.specs.Program.{Scalar, Array, First, Nothing, Evaluated as EvaluatedFirst, Declared, Statement}
use Rattle.c_tree.specs.Program.{Declare, Empty, Evaluate, Block, If, While, Do, For, Switch, Break, Continue, Return}
use Rattle.c_tree.specs.Program.{Statements, Done, Next, Function, Program, value_type}
use Rattle.c_tree.specs.Store.{Held, HoldsNumber, HoldsPointer, converted, in_type, zero_of, State, with_local}
use Rattle.c_tree.specs.Store.{array_named, with_array, array_of, visited, Evaluated, Gives, Ends, and_then, take_turn}
use Rattle.c_eval_laws.specs.Tasks.{Task, Evaluates, Locates, Points, Loads, LoadsOld, Addresses, AppliesUnary}
use Rattle.c_eval_laws.specs.Tasks.{AppliesBinary, AndThen, OrElse, Truth, Chooses, Converts, Stores, Updates, Steps}
use Rattle.c_eval_laws.specs.Tasks.{Drops, Passes, Puts, Exits, Declares, DeclaresAll, Initialises, Fills, FillsElement}
use Rattle.c_eval_laws.specs.Tasks.{Executes, Follows, Branches, Loops, LoopTest, LoopBody, DoLoops, DoBody, DoTest}
use Rattle.c_eval_laws.specs.Tasks.{Switches, SwitchBody, ReturnsValue, ReturnsTo, Way, Ahead, Breaking, Continuing}
use Rattle.c_eval_laws.specs.Tasks.{Returning, top, top_place, below, below_by, put_before, finish, rest}

-- ---- configurations

-- what is left to do but for the state: the function whose body it is in, how the tasks are gone through, the tasks,
-- and the stacks
pub record Configuration : Type 0 where
  pub function : Function
  pub way : Way
  pub tasks : List Task
  pub values : List Held
  pub places : List Found

-- what a step comes to: it goes on with a configuration, or the program ends
abbrev pub Stepped : Type 0
Stepped = Evaluated Configuration

-- tasks that are done in order
abbrev pub go_on : Function → List Task → List Held → List Found → Configuration
go_on f ts vs fs = record { function = f; way = Ahead; tasks = ts; values = vs; places = fs }

-- tasks that are passed over
abbrev pub pass_over : Way → Function → List Task → List Held → List Found → Configuration
pass_over way f ts vs fs = record { function = f; way = way; tasks = ts; values = vs; places = fs }

-- the outcome of what is left
abbrev pub rest_of : Program → Listing → Configuration → State → Outcome
rest_of p l c s = rest p l c.function c.way c.tasks c.values c.places s

-- the outcome of what is left after a step
abbrev pub rest_after : Program → Listing → Stepped → Outcome
rest_after p l stepped = finish stepped (rest_of p l)

-- ---- expressions and places

-- an expression is taken apart
abbrev pub expression_step : Function → Expression → List Task → List Held → List Found → State → Stepped
expression_step f (Constant of n) ts vs fs s = Gives (go_on f ts (HoldsNumber (converted of n) ∷ vs) fs) s
expression_step f (Start element array) ts vs fs s =
    Gives (go_on f ts (HoldsPointer (array_of s array) (pos 0) ∷ vs) fs) s
expression_step f (Read of place) ts vs fs s = Gives (go_on f (Locates place ∷ Loads ∷ ts) vs fs) s
expression_step f (Address element place) ts vs fs s = Gives (go_on f (Locates place ∷ Addresses ∷ ts) vs fs) s
expression_step f (Unary of op e) ts vs fs s = Gives (go_on f (Evaluates e ∷ AppliesUnary of op ∷ ts) vs fs) s
expression_step f (Binary of op a b) ts vs fs s =
    Gives (go_on f (Evaluates a ∷ Evaluates b
    ∷ AppliesBinary (working_type op (value_type a) (value_type b)) op ∷ ts) vs fs) s
expression_step f (And a b) ts vs fs s = Gives (go_on f (Evaluates a ∷ AndThen b ∷ ts) vs fs) s
expression_step f (Or a b) ts vs fs s = Gives (go_on f (Evaluates a ∷ OrElse b ∷ ts) vs fs) s
expression_step f (Conditional of t a b) ts vs fs s = Gives (go_on f (Evaluates t ∷ Chooses of a b ∷ ts) vs fs) s
expression_step f (Cast to e) ts vs fs s = Gives (go_on f (Evaluates e ∷ Converts to ∷ ts) vs fs) s
expression_step f (Assign of place e) ts vs fs s =
    Gives (go_on f (Locates place ∷ Evaluates e ∷ Stores of ∷ ts) vs fs) s
expression_step f (Update of op place e) ts vs fs s =
    Gives (go_on f (Locates place ∷ LoadsOld ∷ Evaluates e
    ∷ Updates of (working_type op of (value_type e)) op ∷ ts) vs fs) s
expression_step f (Step of op place) ts vs fs s =
    Gives (go_on f (Locates place ∷ LoadsOld ∷ Steps of op ∷ ts) vs fs) s
expression_step f (Comma a b) ts vs fs s = Gives (go_on f (Evaluates a ∷ Drops ∷ Evaluates b ∷ ts) vs fs) s
expression_step f (Call of k arguments) ts vs fs s = Gives (go_on f (Passes k arguments 0 ∷ ts) vs fs) s
expression_step f (Putchar e) ts vs fs s = Gives (go_on f (Evaluates e ∷ Puts ∷ ts) vs fs) s
expression_step f Getchar ts vs fs s = and_then (get_from s.left s) (λ v t. Gives (go_on f ts (v ∷ vs) fs) t)
expression_step f (Exit e) ts vs fs s = Gives (go_on f (Evaluates e ∷ Exits ∷ ts) vs fs) s

-- a place is found, or its pointer is to be evaluated; `a[i]` is `*(a+i)` (C99 6.5.2.1)
abbrev pub place_step : Function → Place → List Task → List Held → List Found → State → Stepped
place_step f (LocalPlace v) ts vs fs s = Gives (go_on f ts vs (InLocal v ∷ fs)) s
place_step f (StaticPlace k) ts vs fs s = Gives (go_on f ts vs (InObject k ∷ fs)) s
place_step f (Target element e) ts vs fs s = Gives (go_on f (Evaluates e ∷ Points ∷ ts) vs fs) s
place_step f (Element element a i) ts vs fs s =
    Gives (go_on f (Evaluates a ∷ Evaluates i ∷ AppliesBinary Int Add ∷ Points ∷ ts) vs fs) s

-- ---- calls

-- The function's body starts in a call of its own, and the tasks of the function that calls stand behind it.
abbrev pub call_step : Function → Option Function → List Held → List Task → List Held → List Found → State → Stepped
call_step f None arguments ts vs fs s = Gives (go_on f ts (HoldsNumber (pos 0) ∷ vs) fs) s
call_step f (Some g) arguments ts vs fs s =
    if nat_le most_active (length s.active) then Ends (Trapped Check) s
    else take_turn s (λ t. Gives (go_on g (Follows g.body ∷ ReturnsTo f ∷ ts) vs fs)
    (record t { active = first_activation g arguments ∷ t.active }))

-- the next argument, or the call
abbrev pub arguments_step : Program → Function → ℕ → Arguments → ℕ → List Task → List Held → List Found → State
    → Stepped
arguments_step p f k NoMore count ts vs fs s =
    call_step f (slice_get p.functions k) (put_before count vs []) ts (below_by count vs) fs s
arguments_step p f k (Argument e others) count ts vs fs s =
    Gives (go_on f (Evaluates e ∷ Passes k others (suc count) ∷ ts) vs fs) s

-- ---- declared items

-- a local's first value, if it has one
abbrev pub first_value : ℕ → ValueType → Option Expression → List Task → List Task
first_value local of None ts = ts
first_value local of (Some e) ts = Evaluates e ∷ Initialises local of ∷ ts

abbrev pub item_step : Listing → Function → Item → List Task → List Held → List Found → State → Stepped
item_step l f (Scalar number local value) ts vs fs s =
    Gives (go_on f (first_value local (type_at f local) value ts) vs fs)
    (with_local local (zero_of (type_at f local)) (visited l number s))
item_step l f (Array number k element (Elements es)) ts vs fs s = Gives (go_on f (Fills k element 0 es ∷ ts) vs fs)
    (with_array (own_array s k) (zeroed (array_named s (own_array s k))) (visited l number s))
item_step l f (Array number k element (Text object)) ts vs fs s =
    let t : State = with_array (own_array s k) (zeroed (array_named s (own_array s k))) (visited l number s) in
    Gives (go_on f ts vs fs) (with_array (own_array t k)
    (text_then_zeros (array_named t (own_array t k)) (array_named t (Static object))) t)

-- ---- statements

-- the statements from a place on
abbrev pub statements_from : Statements → ℕ → Statements
statements_from Done place = Done
statements_from (Next first others) zero = Next first others
statements_from (Next first others) (suc place) = statements_from others place

-- the body of a switch from a label on, where it has one for the value
abbrev pub from_label : Option ℕ → Statements → List Task → List Task
from_label None body ts = ts
from_label (Some place) body ts = Follows (statements_from body place) ∷ SwitchBody ∷ ts

-- the first part of a `for`
abbrev pub before_loop : First → List Task → List Task
before_loop Nothing ts = ts
before_loop (EvaluatedFirst e) ts = Evaluates e ∷ Drops ∷ ts
before_loop (Declared items) ts = DeclaresAll items ∷ ts

-- what each turn of a loop begins with
abbrev pub turn_of : Option Expression → Option Expression → Statement → List Task → List Task
turn_of None after body ts = Executes body ∷ LoopBody None after body ∷ ts
turn_of (Some e) after body ts = Evaluates e ∷ LoopTest (Some e) after body ∷ ts

-- what a loop does behind its test
abbrev pub body_if : Bool → Option Expression → Option Expression → Statement → List Task → List Task
body_if true test after body ts = Executes body ∷ LoopBody test after body ∷ ts
body_if false test after body ts = ts

-- what a loop does behind its body
abbrev pub loop_again : Option Expression → Option Expression → Statement → List Task → List Task
loop_again test None body ts = Loops test None body ∷ ts
loop_again test (Some e) body ts = Evaluates e ∷ Drops ∷ Loops test (Some e) body ∷ ts

-- what a `do` does behind its test
abbrev pub do_if : Bool → Statement → Expression → List Task → List Task
do_if true body test ts = DoLoops body test ∷ ts
do_if false body test ts = ts

-- a statement is taken apart
abbrev pub statement_step : Listing → Function → Statement → List Task → List Held → List Found → State → Stepped
statement_step l f (Declare item) ts vs fs s = Gives (go_on f (Declares item ∷ ts) vs fs) s
statement_step l f (Empty n) ts vs fs s = Gives (go_on f ts vs fs) (visited l n s)
statement_step l f (Evaluate n e) ts vs fs s = Gives (go_on f (Evaluates e ∷ Drops ∷ ts) vs fs) (visited l n s)
statement_step l f (Block body) ts vs fs s = Gives (go_on f (Follows body ∷ ts) vs fs) s
statement_step l f (If n e a b) ts vs fs s = Gives (go_on f (Evaluates e ∷ Branches a b ∷ ts) vs fs) (visited l n s)
statement_step l f (While n e body) ts vs fs s = Gives (go_on f (Loops (Some e) None body ∷ ts) vs fs) (visited l n s)
statement_step l f (Do n body e) ts vs fs s = Gives (go_on f (DoLoops body e ∷ ts) vs fs) (visited l n s)
statement_step l f (For n first test after body) ts vs fs s =
    Gives (go_on f (before_loop first (Loops test after body ∷ ts)) vs fs) (visited l n s)
statement_step l f (Switch n e labels body) ts vs fs s =
    Gives (go_on f (Evaluates e ∷ Switches labels body ∷ ts) vs fs) (visited l n s)
statement_step l f (Break n) ts vs fs s = Gives (pass_over Breaking f ts vs fs) (visited l n s)
statement_step l f (Continue n) ts vs fs s = Gives (pass_over Continuing f ts vs fs) (visited l n s)
statement_step l f (Return n None) ts vs fs s =
    Gives (pass_over Returning f ts (HoldsNumber (pos 0) ∷ vs) fs) (visited l n s)
statement_step l f (Return n (Some e)) ts vs fs s =
    Gives (go_on f (Evaluates e ∷ ReturnsValue f.result ∷ ts) vs fs) (visited l n s)

-- ---- all tasks

-- a task is done
abbrev pub task_step : Program → Listing → Function → Task → List Task → List Held → List Found → State → Stepped
task_step p l f (Evaluates e) ts vs fs s = expression_step f e ts vs fs s
task_step p l f (Locates place) ts vs fs s = place_step f place ts vs fs s
task_step p l f Points ts vs fs s = Gives (go_on f ts (below vs) (target_of (top vs) ∷ fs)) s
task_step p l f Loads ts vs fs s = and_then (load (top_place fs) s) (λ v t. Gives (go_on f ts (v ∷ vs) (below fs)) t)
task_step p l f LoadsOld ts vs fs s = and_then (load (top_place fs) s) (λ v t. Gives (go_on f ts (v ∷ vs) fs) t)
task_step p l f Addresses ts vs fs s = Gives (go_on f ts (address_of (top_place fs) ∷ vs) (below fs)) s
task_step p l f (AppliesUnary of op) ts vs fs s = Gives (go_on f ts (unary_value of op (top vs) ∷ below vs) fs) s
task_step p l f (AppliesBinary within op) ts vs fs s =
    and_then (computed (binary_value within op (top (below vs)) (top vs)) s)
    (λ v t. Gives (go_on f ts (v ∷ below (below vs)) fs) t)
task_step p l f (AndThen b) ts vs fs s =
    Gives (if is_true (top vs) then go_on f (Evaluates b ∷ Truth ∷ ts) (below vs) fs
    else go_on f ts (truth_value false ∷ below vs) fs) s
task_step p l f (OrElse b) ts vs fs s =
    Gives (if is_true (top vs) then go_on f ts (truth_value true ∷ below vs) fs
    else go_on f (Evaluates b ∷ Truth ∷ ts) (below vs) fs) s
task_step p l f Truth ts vs fs s = Gives (go_on f ts (truth_value (is_true (top vs)) ∷ below vs) fs) s
task_step p l f (Chooses of a b) ts vs fs s =
    Gives (go_on f (Evaluates (if is_true (top vs) then a else b) ∷ Converts of ∷ ts) (below vs) fs) s
task_step p l f (Converts to) ts vs fs s = Gives (go_on f ts (in_type to (top vs) ∷ below vs) fs) s
task_step p l f (Stores of) ts vs fs s = and_then (store (top_place fs) (in_type of (top vs)) s)
    (λ v t. Gives (go_on f ts (v ∷ below vs) (below fs)) t)
task_step p l f (Updates of within op) ts vs fs s =
    and_then (updated of within op (top_place fs) (top (below vs)) (top vs) s)
    (λ v t. Gives (go_on f ts (v ∷ below (below vs)) (below fs)) t)
task_step p l f (Steps of op) ts vs fs s =
    and_then (updated of (step_type op of) (step_op op) (top_place fs) (top vs) (HoldsNumber (pos 1)) s)
    (λ v t. Gives (go_on f ts (step_result op (top vs) v ∷ below vs) (below fs)) t)
task_step p l f Drops ts vs fs s = Gives (go_on f ts (below vs) fs) s
task_step p l f (Passes k es count) ts vs fs s = arguments_step p f k es count ts vs fs s
task_step p l f Puts ts vs fs s = and_then (put (top vs) s) (λ v t. Gives (go_on f ts (v ∷ below vs) fs) t)
task_step p l f Exits ts vs fs s = Ends (Ended (low_byte (top vs))) s
task_step p l f (Declares item) ts vs fs s = item_step l f item ts vs fs s
task_step p l f (DeclaresAll []) ts vs fs s = Gives (go_on f ts vs fs) s
task_step p l f (DeclaresAll (item ∷ items)) ts vs fs s =
    Gives (go_on f (Declares item ∷ DeclaresAll items ∷ ts) vs fs) s
task_step p l f (Initialises local of) ts vs fs s =
    Gives (go_on f ts (below vs) fs) (with_local local (in_type of (top vs)) s)
task_step p l f (Fills array element i []) ts vs fs s = Gives (go_on f ts vs fs) s
task_step p l f (Fills array element i (e ∷ es)) ts vs fs s =
    Gives (go_on f (Evaluates e ∷ FillsElement array element i es ∷ ts) vs fs) s
task_step p l f (FillsElement k element i es) ts vs fs s =
    and_then (store (AtIndex (own_array s k) (pos i)) (in_type (Integer element) (top vs)) s)
    (λ stored t. Gives (go_on f (Fills k element (suc i) es ∷ ts) (below vs) fs) t)
task_step p l f (Executes x) ts vs fs s = statement_step l f x ts vs fs s
task_step p l f (Follows Done) ts vs fs s = Gives (go_on f ts vs fs) s
task_step p l f (Follows (Next x xs)) ts vs fs s = Gives (go_on f (Executes x ∷ Follows xs ∷ ts) vs fs) s
task_step p l f (Branches a b) ts vs fs s =
    Gives (go_on f (Executes (if is_true (top vs) then a else b) ∷ ts) (below vs) fs) s
task_step p l f (Loops test after body) ts vs fs s =
    take_turn s (λ t. Gives (go_on f (turn_of test after body ts) vs fs) t)
task_step p l f (LoopTest test after body) ts vs fs s =
    Gives (go_on f (body_if (is_true (top vs)) test after body ts) (below vs) fs) s
task_step p l f (LoopBody test after body) ts vs fs s = Gives (go_on f (loop_again test after body ts) vs fs) s
task_step p l f (DoLoops body test) ts vs fs s =
    take_turn s (λ t. Gives (go_on f (Executes body ∷ DoBody body test ∷ ts) vs fs) t)
task_step p l f (DoBody body test) ts vs fs s = Gives (go_on f (Evaluates test ∷ DoTest body test ∷ ts) vs fs) s
task_step p l f (DoTest body test) ts vs fs s =
    Gives (go_on f (do_if (is_true (top vs)) body test ts) (below vs) fs) s
task_step p l f (Switches labels body) ts vs fs s =
    Gives (go_on f (from_label (switched labels (top vs)) body ts) (below vs) fs) s
task_step p l f SwitchBody ts vs fs s = Gives (go_on f ts vs fs) s
task_step p l f (ReturnsValue result) ts vs fs s =
    Gives (pass_over Returning f ts (in_type result (top vs) ∷ below vs) fs) s
task_step p l f (ReturnsTo caller) ts vs fs s =
    Gives (go_on caller ts (HoldsNumber (pos 0) ∷ vs) fs) (record s { active = older s.active })

-- A task is passed over. A loop or switch is left by `break`, `continue` goes to the end of a loop's body, and each
-- function ends, with the value on the stack where one returns.
abbrev pub passing_step : Way → Function → Task → List Task → List Held → List Found → State → Stepped
passing_step Breaking f (LoopBody test after body) ts vs fs s = Gives (go_on f ts vs fs) s
passing_step Breaking f (DoBody body test) ts vs fs s = Gives (go_on f ts vs fs) s
passing_step Breaking f SwitchBody ts vs fs s = Gives (go_on f ts vs fs) s
passing_step Continuing f (LoopBody test after body) ts vs fs s =
    Gives (go_on f (loop_again test after body ts) vs fs) s
passing_step Continuing f (DoBody body test) ts vs fs s =
    Gives (go_on f (Evaluates test ∷ DoTest body test ∷ ts) vs fs) s
passing_step Returning f (ReturnsTo caller) ts vs fs s =
    Gives (go_on caller ts vs fs) (record s { active = older s.active })
passing_step way f (ReturnsTo caller) ts vs fs s =
    Gives (go_on caller ts (HoldsNumber (pos 0) ∷ vs) fs) (record s { active = older s.active })
passing_step way f task ts vs fs s = Gives (pass_over way f ts vs fs) s

-- The next step. Where no task is left, the last value is that of `main`.
abbrev pub step : Program → Listing → Function → Way → List Task → List Held → List Found → State → Stepped
step p l f way [] vs fs s = Ends (Ended (low_byte (top vs))) s
step p l f Ahead (task ∷ ts) vs fs s = task_step p l f task ts vs fs s
step p l f way (task ∷ ts) vs fs s = passing_step way f task ts vs fs s

-- ---- from the start

-- the call of `main`
abbrev pub first_tasks : Program → List Task
first_tasks p = Passes p.main NoMore 0 ∷ []

-- so many steps, and how they come out
abbrev pub steps : ℕ → Program → Listing → Configuration → State → Stepped
steps zero p l c s = Gives c s
steps (suc count) p l c s =
    and_then (step p l c.function c.way c.tasks c.values c.places s) (λ c' t. steps count p l c' t)
