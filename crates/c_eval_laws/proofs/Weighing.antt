-- Each step takes a turn, or lowers the weight of what is left.
use Rattle.std.proofs.Common.{◌≡◌, ◌≤◌, ◌<◌, ℕ, zero, suc, ◌+◌, Bool, true, false, List, [], ◌∷◌, length, Option, Some}
use Rattle.std.proofs.Common.{None, refl, arith}
use Rattle.std.specs.Prelude.{ℤ, pos, if◌then◌else◌, nat_le, slice_get}
use Rattle.pcc_base.specs.Outcome.{ArrayName, Null, Static, InFrame, Unknown, Trapped, Listing}
use Rattle.pcc_base.specs.declared.run.Trap.TheVariants.{Check}
use Rattle.c_tree.specs.declared.expression.BinaryOp.{BinaryOp}
use Rattle.c_tree.specs.declared.types.IntegerType.{IntegerType}
use Rattle.c_tree.specs.declared.types.ValueType.{ValueType}
use Rattle.c_tree.specs.declared.types.ValueType.TheVariants.{Integer}
use Rattle.c_tree.specs.Evaluation.{Found, InLocal, InObject, AtIndex, load, store, computed, element_read}
use Rattle.c_tree.specs.Evaluation.{element_written, get_from, own_array, updated, most_active, switched}
use Rattle.c_tree.specs.Operators.{Computed, Computes, Traps, binary_value, is_true, step_op, step_type}
use Rattle.c_tree.specs.Program.{Expression, Constant, Start, Read, Address, Unary, Binary, And, Or, Conditional, Cast}
use Rattle.c_tree.specs.Program.{Assign, Update, Step, Comma, Call, Putchar, Getchar, Exit, Place, LocalPlace}
use Rattle.c_tree.specs.Program.{StaticPlace, Target, Element, Arguments, NoMore, Argument, Elements, Text, Item}
use Rattle.c_tree.specs.Program.{Scalar, Array, Nothing, Evaluated as EvaluatedFirst, Declared, Statement}
use Rattle.c_tree.specs.Program.{Declare, Empty, Evaluate, Block, If, While, Do, For, Switch, Break, Continue, Return}
use Rattle.c_tree.specs.Program.{Statements, Done, Next, Function, Program}
use Rattle.c_tree.specs.Store.{Held, HoldsNumber, in_type, State, element_at, array_named, with_array, Evaluated, Gives}
use Rattle.c_tree.specs.Store.{Ends, and_then, turn_with, take_turn}
use Rattle.c_eval_laws.specs.Tasks.{Task, Evaluates, Locates, Points, Loads, LoadsOld, Addresses, AppliesUnary}
use Rattle.c_eval_laws.specs.Tasks.{AppliesBinary, AndThen, OrElse, Truth, Chooses, Converts, Stores, Updates, Steps}
use Rattle.c_eval_laws.specs.Tasks.{Drops, Passes, Puts, Exits, Declares, DeclaresAll, Initialises, Fills, FillsElement}
use Rattle.c_eval_laws.specs.Tasks.{Executes, Follows, Branches, Loops, LoopTest, LoopBody, DoLoops, DoBody, DoTest}
use Rattle.c_eval_laws.specs.Tasks.{Switches, SwitchBody, ReturnsValue, ReturnsTo, Way, Ahead, Breaking, Continuing}
use Rattle.c_eval_laws.specs.Tasks.{Returning, top, top_place, below, below_by, put_before}
use Rattle.c_eval_laws.specs.Steps.{Configuration, go_on, call_step, arguments_step, expression_step, place_step}
use Rattle.c_eval_laws.specs.Steps.{item_step, statement_step, statements_from, from_label, body_if, loop_again, do_if}
use Rattle.c_eval_laws.specs.Steps.{step, task_step}
use Rattle.c_eval_laws.specs.Weights.{expression_weight, place_weight, arguments_weight, option_weight}
use Rattle.c_eval_laws.specs.Weights.{item_weight, items_weight, statement_weight, statements_weight, weight}
use Rattle.c_eval_laws.specs.Weights.{weights, is_there, is_turn, takes_turn, MovesOn}
use Rattle.c_eval_laws.specs.TasksLaws.{WeightsFall}

-- ---- what takes no turn

-- where something is given, as many turns are left
abbrev Still : {A : Type 0} → State → Evaluated A → Type 0
Still s (Gives v t) = t.turns ≡ s.turns
Still s (Ends end t) = Unit {0}

read-still : (s : State) (element : Option ℤ) → Still s (element_read s element)
read-still s None = tt
read-still s (Some n) = refl

load-still : (found : Found) (s : State) → Still s (load found s)
load-still (InLocal local) s = refl
load-still (InObject object) s = read-still s (element_at (array_named s (Static object)) (pos 0))
load-still (AtIndex array index) s = read-still s (element_at (array_named s array) index)

array-still : (array : ArrayName) (elements : List ℤ) (s : State) → (with_array array elements s).turns ≡ s.turns
array-still Null elements s = refl
array-still (Static k) elements s = refl
array-still (InFrame k depth) elements s = refl
array-still Unknown elements s = refl

written-still : (array : ArrayName) (index : ℤ) (value : Held) (s : State) (old : Option ℤ)
    → Still s (element_written array index value s old)
written-still array index value s None = tt
written-still array index value s (Some old) = array-still array _ s

store-still : (found : Found) (value : Held) (s : State) → Still s (store found value s)
store-still (InLocal local) value s = refl
store-still (InObject object) value s =
    written-still (Static object) (pos 0) value s (element_at (array_named s (Static object)) (pos 0))
store-still (AtIndex array index) value s =
    written-still array index value s (element_at (array_named s array) index)

computed-still : (c : Computed) (s : State) → Still s (computed c s)
computed-still (Computes value) s = refl
computed-still (Traps trap) s = tt

updated-still : (of : ValueType) (within : IntegerType) (op : BinaryOp) (found : Found) (old value : Held) (s : State)
    → Still s (updated of within op found old value s)
updated-still of within op found old value s = by_result (binary_value within op old value)
  where
    by_result : (c : Computed) → Still s (and_then (computed c s) (λ new t. store found (in_type of new) t))
    by_result (Computes new) = store-still found (in_type of new) s
    by_result (Traps trap) = tt

get-still : (left : List ℕ) (s : State) → Still s (get_from left s)
get-still [] s = refl
get-still (byte ∷ bytes) s = refl

-- what is given goes on with tasks that weigh less
gives-less : {A : Type 0} (before : ℕ) (s : State) (r : Evaluated A) (after : A → Configuration) → Still s r
    → ((v : A) → weights (after v).tasks < before)
    → MovesOn false before s (and_then r (λ v t. Gives (after v) t))
gives-less before s (Gives v t) after still less = (still, less v)
gives-less before s (Ends end t) after still less = tt

-- ---- turns

-- a turn is taken
turn-moves : (before : ℕ) (s : State) (go : State → Configuration) (change : State → State)
    → ((t : State) → (change t).turns ≡ t.turns)
    → MovesOn true before s (take_turn s (λ t. Gives (go t) (change t)))
turn-moves before s go change same = by_turns s.turns refl
  where
    by_turns : (n : ℕ) → s.turns ≡ n → MovesOn true before s (turn_with n s (λ t. Gives (go t) (change t)))
    by_turns zero e = tt
    by_turns (suc n) e = let f = same (record s { turns = n }) in omega (arith, e, f)

-- a call too many ends the program
unless-full : (before : ℕ) (s : State) (full : Bool) (r : Evaluated Configuration) → MovesOn true before s r
    → MovesOn true before s (if full then Ends (Trapped Check) s else r)
unless-full before s true r h = tt
unless-full before s false r h = h

-- a function is called
call-moves : (f : Function) (g : Option Function) (arguments : List Held) (ts : List Task) (vs : List Held)
    (fs : List Found) (s : State) → MovesOn (is_there g) (1 + weights ts) s (call_step f g arguments ts vs fs s)
call-moves f None arguments ts vs fs s = (refl, omega arith)
call-moves f (Some g) arguments ts vs fs s = unless-full (1 + weights ts) s
    (nat_le most_active (length s.active)) _ (turn-moves (1 + weights ts) s _ _ (λ t. refl))

-- ---- trees

-- an expression
expression-moves : (f : Function) (e : Expression) (ts : List Task) (vs : List Held) (fs : List Found) (s : State)
    → MovesOn false (expression_weight e + weights ts) s (expression_step f e ts vs fs s)
expression-moves f (Constant of n) ts vs fs s = (refl, omega arith)
expression-moves f (Start element array) ts vs fs s = (refl, omega arith)
expression-moves f (Read of place) ts vs fs s = (refl, omega arith)
expression-moves f (Address element place) ts vs fs s = (refl, omega arith)
expression-moves f (Unary of op e) ts vs fs s = (refl, omega arith)
expression-moves f (Binary of op a b) ts vs fs s = (refl, omega arith)
expression-moves f (And a b) ts vs fs s = (refl, omega arith)
expression-moves f (Or a b) ts vs fs s = (refl, omega arith)
expression-moves f (Conditional of t a b) ts vs fs s = (refl, omega arith)
expression-moves f (Cast to e) ts vs fs s = (refl, omega arith)
expression-moves f (Assign of place e) ts vs fs s = (refl, omega arith)
expression-moves f (Update of op place e) ts vs fs s = (refl, omega arith)
expression-moves f (Step of op place) ts vs fs s = (refl, omega arith)
expression-moves f (Comma a b) ts vs fs s = (refl, omega arith)
expression-moves f (Call of k arguments) ts vs fs s = (refl, omega arith)
expression-moves f (Putchar e) ts vs fs s = (refl, omega arith)
expression-moves f Getchar ts vs fs s = gives-less _ s (get_from s.left s) _ (get-still s.left s) (λ v. omega arith)
expression-moves f (Exit e) ts vs fs s = (refl, omega arith)

-- a place
place-moves : (f : Function) (place : Place) (ts : List Task) (vs : List Held) (fs : List Found) (s : State)
    → MovesOn false (place_weight place + weights ts) s (place_step f place ts vs fs s)
place-moves f (LocalPlace v) ts vs fs s = (refl, omega arith)
place-moves f (StaticPlace k) ts vs fs s = (refl, omega arith)
place-moves f (Target element e) ts vs fs s = (refl, omega arith)
place-moves f (Element element a i) ts vs fs s = (refl, omega arith)

-- a declared item
item-moves : (l : Listing) (f : Function) (item : Item) (ts : List Task) (vs : List Held) (fs : List Found) (s : State)
    → MovesOn false (item_weight item + weights ts) s (item_step l f item ts vs fs s)
item-moves l f (Scalar n v None) ts vs fs s = (refl, omega arith)
item-moves l f (Scalar n v (Some e)) ts vs fs s = (refl, omega arith)
item-moves l f (Array n k element (Elements es)) ts vs fs s = (refl, omega arith)
item-moves l f (Array n k element (Text object)) ts vs fs s = (refl, omega arith)

-- a statement
statement-moves : (l : Listing) (f : Function) (x : Statement) (ts : List Task) (vs : List Held) (fs : List Found)
    (s : State) → MovesOn false (statement_weight x + weights ts) s (statement_step l f x ts vs fs s)
statement-moves l f (Declare item) ts vs fs s = (refl, omega arith)
statement-moves l f (Empty n) ts vs fs s = (refl, omega arith)
statement-moves l f (Evaluate n e) ts vs fs s = (refl, omega arith)
statement-moves l f (Block body) ts vs fs s = (refl, omega arith)
statement-moves l f (If n e a b) ts vs fs s = (refl, omega arith)
statement-moves l f (While n e body) ts vs fs s = (refl, omega arith)
statement-moves l f (Do n body e) ts vs fs s = (refl, omega arith)
statement-moves l f (For n Nothing test after body) ts vs fs s = (refl, omega arith)
statement-moves l f (For n (EvaluatedFirst e) test after body) ts vs fs s = (refl, omega arith)
statement-moves l f (For n (Declared items) test after body) ts vs fs s = (refl, omega arith)
statement-moves l f (Switch n e labels body) ts vs fs s = (refl, omega arith)
statement-moves l f (Break n) ts vs fs s = (refl, omega arith)
statement-moves l f (Continue n) ts vs fs s = (refl, omega arith)
statement-moves l f (Return n None) ts vs fs s = (refl, omega arith)
statement-moves l f (Return n (Some e)) ts vs fs s = (refl, omega arith)

-- ---- tasks

-- statements from a place on weigh no more than all
from-less : (xs : Statements) (place : ℕ) → statements_weight (statements_from xs place) ≤ statements_weight xs
from-less Done place = omega arith
from-less (Next x xs) zero = omega arith
from-less (Next x xs) (suc place) = omega (arith, from-less xs place)

-- the body of a switch, from its label on
label-less : (place : Option ℕ) (body : Statements) (ts : List Task)
    → weights (from_label place body ts) < 2 + statements_weight body + weights ts
label-less None body ts = omega arith
label-less (Some place) body ts = omega (arith, from-less body place)

-- one of two
either-less : (A : Type 0) (size : A → ℕ) (holds : Bool) (a b : A) → size (if holds then a else b) ≤ size a + size b
either-less A size true a b = omega arith
either-less A size false a b = omega arith

-- what stands behind the test of a loop, its body, and the test of a `do`
body-less : (holds : Bool) (test after : Option Expression) (body : Statement) (ts : List Task)
    → weights (body_if holds test after body ts) < 4 + option_weight after + statement_weight body + weights ts
body-less true test after body ts = omega arith
body-less false test after body ts = omega arith

again-less : (test after : Option Expression) (body : Statement) (ts : List Task)
    → weights (loop_again test after body ts) < 3 + option_weight after + weights ts
again-less test None body ts = omega arith
again-less test (Some e) body ts = omega arith

do-less : (holds : Bool) (body : Statement) (test : Expression) (ts : List Task)
    → weights (do_if holds body test ts) < 2 + weights ts
do-less true body test ts = omega arith
do-less false body test ts = omega arith

-- `&&` and `||` behind their left sides
and-less : (holds : Bool) (f : Function) (b : Expression) (ts : List Task) (vs ws : List Held) (fs : List Found)
    → weights (if holds then go_on f (Evaluates b ∷ Truth ∷ ts) vs fs else go_on f ts ws fs).tasks
    < 2 + expression_weight b + weights ts
and-less true f b ts vs ws fs = omega arith
and-less false f b ts vs ws fs = omega arith

or-less : (holds : Bool) (f : Function) (b : Expression) (ts : List Task) (vs ws : List Held) (fs : List Found)
    → weights (if holds then go_on f ts ws fs else go_on f (Evaluates b ∷ Truth ∷ ts) vs fs).tasks
    < 2 + expression_weight b + weights ts
or-less true f b ts vs ws fs = omega arith
or-less false f b ts vs ws fs = omega arith

-- the next argument, or the call
arguments-move : (p : Program) (f : Function) (k : ℕ) (arguments : Arguments) (count : ℕ) (ts : List Task)
    (vs : List Held) (fs : List Found) (s : State) → MovesOn (is_turn p (Passes k arguments count))
    (1 + arguments_weight arguments + weights ts) s (arguments_step p f k arguments count ts vs fs s)
arguments-move p f k NoMore count ts vs fs s =
    call-moves f (slice_get p.functions k) (put_before count vs []) ts (below_by count vs) fs s
arguments-move p f k (Argument e others) count ts vs fs s = (refl, omega arith)

-- a task is done
task-moves : (p : Program) (l : Listing) (f : Function) (task : Task) (ts : List Task) (vs : List Held)
    (fs : List Found) (s : State)
    → MovesOn (is_turn p task) (weight task + weights ts) s (task_step p l f task ts vs fs s)
task-moves p l f (Evaluates e) ts vs fs s = expression-moves f e ts vs fs s
task-moves p l f (Locates place) ts vs fs s = place-moves f place ts vs fs s
task-moves p l f Points ts vs fs s = (refl, omega arith)
task-moves p l f Loads ts vs fs s =
    gives-less _ s (load (top_place fs) s) _ (load-still (top_place fs) s) (λ v. omega arith)
task-moves p l f LoadsOld ts vs fs s =
    gives-less _ s (load (top_place fs) s) _ (load-still (top_place fs) s) (λ v. omega arith)
task-moves p l f Addresses ts vs fs s = (refl, omega arith)
task-moves p l f (AppliesUnary of op) ts vs fs s = (refl, omega arith)
task-moves p l f (AppliesBinary within op) ts vs fs s =
    gives-less _ s (computed (binary_value within op (top (below vs)) (top vs)) s) _
    (computed-still (binary_value within op (top (below vs)) (top vs)) s) (λ v. omega arith)
task-moves p l f (AndThen b) ts vs fs s = (refl, and-less (is_true (top vs)) f b ts _ _ fs)
task-moves p l f (OrElse b) ts vs fs s = (refl, or-less (is_true (top vs)) f b ts _ _ fs)
task-moves p l f Truth ts vs fs s = (refl, omega arith)
task-moves p l f (Chooses of a b) ts vs fs s =
    (refl, omega (arith, either-less Expression expression_weight (is_true (top vs)) a b))
task-moves p l f (Converts to) ts vs fs s = (refl, omega arith)
task-moves p l f (Stores of) ts vs fs s = gives-less _ s (store (top_place fs) (in_type of (top vs)) s) _
    (store-still (top_place fs) (in_type of (top vs)) s) (λ v. omega arith)
task-moves p l f (Updates of within op) ts vs fs s =
    gives-less _ s (updated of within op (top_place fs) (top (below vs)) (top vs) s) _
    (updated-still of within op (top_place fs) (top (below vs)) (top vs) s) (λ v. omega arith)
task-moves p l f (Steps of op) ts vs fs s =
    gives-less _ s (updated of (step_type op of) (step_op op) (top_place fs) (top vs) (HoldsNumber (pos 1)) s) _
    (updated-still of (step_type op of) (step_op op) (top_place fs) (top vs) (HoldsNumber (pos 1)) s) (λ v. omega arith)
task-moves p l f Drops ts vs fs s = (refl, omega arith)
task-moves p l f (Passes k es count) ts vs fs s = arguments-move p f k es count ts vs fs s
task-moves p l f Puts ts vs fs s = (refl, omega arith)
task-moves p l f Exits ts vs fs s = tt
task-moves p l f (Declares item) ts vs fs s = item-moves l f item ts vs fs s
task-moves p l f (DeclaresAll []) ts vs fs s = (refl, omega arith)
task-moves p l f (DeclaresAll (item ∷ items)) ts vs fs s = (refl, omega arith)
task-moves p l f (Initialises local of) ts vs fs s = (refl, omega arith)
task-moves p l f (Fills array element i []) ts vs fs s = (refl, omega arith)
task-moves p l f (Fills array element i (e ∷ es)) ts vs fs s = (refl, omega arith)
task-moves p l f (FillsElement array element i es) ts vs fs s =
    gives-less _ s (store (AtIndex (own_array s array) (pos i)) (in_type (Integer element) (top vs)) s) _
    (store-still (AtIndex (own_array s array) (pos i)) (in_type (Integer element) (top vs)) s) (λ v. omega arith)
task-moves p l f (Executes x) ts vs fs s = statement-moves l f x ts vs fs s
task-moves p l f (Follows Done) ts vs fs s = (refl, omega arith)
task-moves p l f (Follows (Next x xs)) ts vs fs s = (refl, omega arith)
task-moves p l f (Branches a b) ts vs fs s =
    (refl, omega (arith, either-less Statement statement_weight (is_true (top vs)) a b))
task-moves p l f (Loops test after body) ts vs fs s = turn-moves (1 + weights ts) s _ _ (λ t. refl)
task-moves p l f (LoopTest test after body) ts vs fs s = (refl, body-less (is_true (top vs)) test after body ts)
task-moves p l f (LoopBody test after body) ts vs fs s = (refl, again-less test after body ts)
task-moves p l f (DoLoops body test) ts vs fs s = turn-moves (1 + weights ts) s _ _ (λ t. refl)
task-moves p l f (DoBody body test) ts vs fs s = (refl, omega arith)
task-moves p l f (DoTest body test) ts vs fs s = (refl, do-less (is_true (top vs)) body test ts)
task-moves p l f (Switches labels body) ts vs fs s = (refl, label-less (switched labels (top vs)) body ts)
task-moves p l f SwitchBody ts vs fs s = (refl, omega arith)
task-moves p l f (ReturnsValue result) ts vs fs s = (refl, omega arith)
task-moves p l f (ReturnsTo caller) ts vs fs s = (refl, omega arith)

-- ---- tasks that are passed over

expression-weighs : (e : Expression) → 1 ≤ expression_weight e
expression-weighs (Constant of n) = omega arith
expression-weighs Getchar = omega arith
expression-weighs _ = omega arith

place-weighs : (place : Place) → 1 ≤ place_weight place
place-weighs (LocalPlace v) = omega arith
place-weighs (StaticPlace k) = omega arith
place-weighs (Target element e) = omega arith
place-weighs (Element element a i) = omega arith

item-weighs : (item : Item) → 1 ≤ item_weight item
item-weighs (Scalar n v value) = omega arith
item-weighs (Array n k element value) = omega arith

items-weigh : (items : List Item) → 1 ≤ items_weight items
items-weigh [] = omega arith
items-weigh (item ∷ items) = omega arith

statement-weighs : (x : Statement) → 1 ≤ statement_weight x
statement-weighs (Declare item) = omega arith
statement-weighs _ = omega arith

statements-weigh : (xs : Statements) → 1 ≤ statements_weight xs
statements-weigh Done = omega arith
statements-weigh (Next x xs) = omega arith

-- each task weighs something
task-weighs : (task : Task) → 1 ≤ weight task
task-weighs (Evaluates e) = expression-weighs e
task-weighs (Locates place) = place-weighs place
task-weighs (Declares item) = item-weighs item
task-weighs (DeclaresAll items) = items-weigh items
task-weighs (Executes x) = statement-weighs x
task-weighs (Follows xs) = statements-weigh xs
task-weighs _ = omega arith

-- a task is passed over
passing-moves : (p : Program) (l : Listing) (f : Function) (way : Way) (task : Task) (ts : List Task) (vs : List Held)
    (fs : List Found) (s : State)
    → MovesOn (takes_turn p way (task ∷ ts)) (weight task + weights ts) s (step p l f way (task ∷ ts) vs fs s)
passing-moves p l f Ahead task ts vs fs s = task-moves p l f task ts vs fs s
passing-moves p l f Continuing (LoopBody test after body) ts vs fs s = (refl, again-less test after body ts)
passing-moves p l f Continuing (DoBody body test) ts vs fs s = (refl, omega arith)
passing-moves p l f Breaking SwitchBody ts vs fs s = (refl, omega arith)
passing-moves p l f Returning (ReturnsTo caller) ts vs fs s = (refl, omega arith)
passing-moves p l f way task ts vs fs s = (refl, omega (arith, task-weighs task))

-- every step
pub weights_fall : WeightsFall
weights_fall p l f way [] vs fs s = tt
weights_fall p l f way (task ∷ ts) vs fs s = passing-moves p l f way task ts vs fs s
