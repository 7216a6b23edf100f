-- The evaluation of a program as what is left to do: tasks, one behind the other, a stack of values, a stack of places
-- that are found, and the state. `rest` is the outcome that comes of them, in the words of `specs/Evaluation.antt` of
-- `c_tree`; `specs/Steps.antt` has the steps, none of which changes it.
use Rattle.std.specs.Prelude.{ℕ, zero, suc, pos, Bool, true, false, List, [], ◌∷◌, Option, if◌then◌else◌}
use Rattle.pcc_base.specs.Outcome.{Ended, Listing, Outcome}
use Rattle.c_tree.specs.declared.expression.BinaryOp.{BinaryOp}
use Rattle.c_tree.specs.declared.expression.StepOp.{StepOp}
use Rattle.c_tree.specs.declared.expression.UnaryOp.{UnaryOp}
use Rattle.c_tree.specs.declared.statement.Label.{Label}
use Rattle.c_tree.specs.declared.types.IntegerType.{IntegerType}
use Rattle.c_tree.specs.declared.types.ValueType.{ValueType}
use Rattle.c_tree.specs.declared.types.ValueType.TheVariants.{Integer}
use Rattle.c_tree.specs.Evaluation.{Found, InLocal, AtIndex, target_of, address_of, load, store, computed, low_byte}
use Rattle.c_tree.specs.Evaluation.{put, Calls, truth_value, updated, evaluate, locate, evaluate_all, fill, declare}
use Rattle.c_tree.specs.Evaluation.{declare_all, Left, Falls, Breaks, Continues, Returns, Runs, after_body}
use Rattle.c_tree.specs.Evaluation.{after_switch, loop, do_loop, tested, tested_if_any, evaluated_if_any, switched}
use Rattle.c_tree.specs.Evaluation.{none_or_from, Setting, execute, execute_from, type_at, value_left, older}
use Rattle.c_tree.specs.Evaluation.{call_within, outcome_at, own_array}
use Rattle.c_tree.specs.Operators.{is_true, unary_value, binary_value, step_op, step_type, step_result}
use Rattle.c_tree.specs.Program.{Expression, Place, Arguments, Item, Statement, Statements, Function, Program}
use Rattle.c_tree.specs.Store.{Held, HoldsNumber, in_type, State, with_local, Evaluated, Gives, Ends, and_then}
use Rattle.c_eval_laws.specs.Laws.{within}

-- ---- tasks

-- Something that is left to do. What it takes from the stacks and leaves there stands behind it: values first, then
-- places.
pub data Task : Type 0 where
  -- an expression: leaves its value
  Evaluates : (value : Expression) → Task
  -- a place: leaves the place that is found
  Locates : (place : Place) → Task
  -- takes a pointer, and leaves the place that it goes to
  Points : Task
  -- takes a place, and leaves what is there
  Loads : Task
  -- leaves what is at the last place, which stays
  LoadsOld : Task
  -- takes a place, and leaves its address
  Addresses : Task
  -- takes the operands, and leaves the result
  AppliesUnary : (of : IntegerType) (op : UnaryOp) → Task
  AppliesBinary : (within : IntegerType) (op : BinaryOp) → Task
  -- takes the left side of `&&` or `||`, and leaves the value of the whole
  AndThen : (right : Expression) → Task
  OrElse : (right : Expression) → Task
  -- takes a value, and leaves whether it counts as true
  Truth : Task
  -- takes the test of `?:`, and leaves the value of the whole
  Chooses : (of : ValueType) (first second : Expression) → Task
  -- takes a value, and leaves it in a type
  Converts : (to : ValueType) → Task
  -- takes a value and the place that it is stored to, and leaves it
  Stores : (of : ValueType) → Task
  -- takes the right side, the value of the place before, and the place, and leaves the new value
  Updates : (of : ValueType) (within : IntegerType) (op : BinaryOp) → Task
  -- takes the value of the place before, and the place, and leaves the value of `++` or `--`
  Steps : (of : ValueType) (op : StepOp) → Task
  -- takes a value
  Drops : Task
  -- the arguments of a call that are left, and how many are evaluated: takes these, and leaves what the function gives
  Passes : (function : ℕ) (arguments : Arguments) (count : ℕ) → Task
  -- takes a byte for `putchar`, and leaves it
  Puts : Task
  -- takes the status of `exit`
  Exits : Task
  -- a declared item, and items in order
  Declares : (item : Item) → Task
  DeclaresAll : (items : List Item) → Task
  -- takes the first value of a local
  Initialises : (local : ℕ) (of : ValueType) → Task
  -- the elements of an array of the function from one on; the second takes the value of the one before them
  Fills : (array : ℕ) (element : IntegerType) (from : ℕ) (elements : List Expression) → Task
  FillsElement : (array : ℕ) (element : IntegerType) (at : ℕ) (others : List Expression) → Task
  -- a statement, and statements in order
  Executes : (statement : Statement) → Task
  Follows : (statements : Statements) → Task
  -- takes the test of an `if`
  Branches : (first second : Statement) → Task
  -- A `while` or `for` before the turn of its test. The second takes the value of the test, and the third stands behind
  -- the body.
  Loops : (test after : Option Expression) (body : Statement) → Task
  LoopTest : (test after : Option Expression) (body : Statement) → Task
  LoopBody : (test after : Option Expression) (body : Statement) → Task
  -- A `do` before the turn of its body. The second stands behind the body, and the third takes the value of the test.
  DoLoops : (body : Statement) (test : Expression) → Task
  DoBody : (body : Statement) (test : Expression) → Task
  DoTest : (body : Statement) (test : Expression) → Task
  -- The first takes the value of a switch, and the second stands behind the body.
  Switches : (labels : List Label) (body : Statements) → Task
  SwitchBody : Task
  -- takes the value of a `return`
  ReturnsValue : (result : ValueType) → Task
  -- stands behind the body of a function, and leaves what it gives to the function that called it
  ReturnsTo : (caller : Function) → Task

-- How tasks are gone through: each is done, or they are passed over, up to what a `break` or `continue` leaves, or up
-- to the end of the function, with the value that it returns on the stack.
pub data Way : Type 0 where
  Ahead : Way
  Breaking : Way
  Continuing : Way
  Returning : Way

-- ---- stacks, whose first element is the last that came

abbrev pub top : List Held → Held
top [] = HoldsNumber (pos 0)
top (value ∷ values) = value

abbrev pub top_place : List Found → Found
top_place [] = InLocal 0
top_place (place ∷ places) = place

-- what is below the first
abbrev pub below : {A : Type 0} → List A → List A
below [] = []
below (x ∷ xs) = xs

-- what is below so many
abbrev pub below_by : ℕ → List Held → List Held
below_by zero values = values
below_by (suc count) values = below_by count (below values)

-- so many values in the order in which they came, before others
abbrev pub put_before : ℕ → List Held → List Held → List Held
put_before zero values others = others
put_before (suc count) values others = put_before count (below values) (top values ∷ others)

-- ---- what trees do, each call and each loop over a bound that is above the turns

-- what calls do
abbrev pub calls_of : Program → Listing → Calls
calls_of p l f arguments s = call_within (suc s.turns) p l f arguments s

-- in a function's body
abbrev pub setting_of : Program → Listing → Function → ℕ → Setting
setting_of p l f bound = within (calls_of p l) bound l (type_at f) f.result

abbrev pub executed : Program → Listing → Function → Statement → Runs
executed p l f statement s = execute (setting_of p l f (suc s.turns)) statement s

-- the statements from a place on
abbrev pub executed_from : Program → Listing → Function → Statements → ℕ → Runs
executed_from p l f statements place s = execute_from (setting_of p l f (suc s.turns)) statements place s

abbrev pub looped : Program → Listing → Function → Option Expression → Option Expression → Statement → Runs
looped p l f test after body s = loop (suc s.turns) (tested_if_any (calls_of p l) test)
    (execute (setting_of p l f (suc s.turns)) body) (evaluated_if_any (calls_of p l) after) s

-- a loop from behind its body on
abbrev pub looped_again : Program → Listing → Function → Option Expression → Option Expression → Statement → Runs
looped_again p l f test after body s =
    and_then (evaluated_if_any (calls_of p l) after s) (λ left t. looped p l f test after body t)

-- a loop from behind its test on
abbrev pub looped_if : Program → Listing → Function → Option Expression → Option Expression → Statement → Bool → Runs
looped_if p l f test after body holds s = if holds
    then and_then (executed p l f body s) (after_body (looped_again p l f test after body)) else Gives Falls s

abbrev pub do_looped : Program → Listing → Function → Statement → Expression → Runs
do_looped p l f body test s = do_loop (suc s.turns) (tested (calls_of p l) test)
    (execute (setting_of p l f (suc s.turns)) body) s

-- a `do` from behind its test on, and from behind its body on
abbrev pub do_looped_if : Program → Listing → Function → Statement → Expression → Bool → Runs
do_looped_if p l f body test holds s = if holds then do_looped p l f body test s else Gives Falls s

abbrev pub do_looped_again : Program → Listing → Function → Statement → Expression → Runs
do_looped_again p l f body test s = and_then (tested (calls_of p l) test s) (do_looped_if p l f body test)

-- ---- the outcome of what is left

-- what comes after an evaluation
abbrev pub finish : {A : Type 0} → Evaluated A → (A → State → Outcome) → Outcome
finish (Gives value s) go = go value s
finish (Ends end s) go = outcome_at end s

-- what comes behind a statement, by how it is left; a value that is returned is on the stack, and 0 where none is
abbrev pub behind : (Way → List Held → State → Outcome) → List Held → Left → State → Outcome
behind go values Falls s = go Ahead values s
behind go values Breaks s = go Breaking values s
behind go values Continues s = go Continuing values s
behind go values (Returns value) s = go Returning (value_left (Returns value) ∷ values) s

-- The outcome that comes of tasks, values, places and a state, in the body of a function. No task meets a stack that is
-- too short where the first one fits (`specs/Stacks.antt`); on any other 0 is taken, and the local 0.
unfoldable pub rest : Program → Listing → Function → Way → List Task → List Held → List Found → State → Outcome
rest p l f way [] vs fs s = outcome_at (Ended (low_byte (top vs))) s
rest p l f Ahead (Evaluates e ∷ ts) vs fs s =
    finish (evaluate (calls_of p l) e s) (λ v t. rest p l f Ahead ts (v ∷ vs) fs t)
rest p l f Ahead (Locates place ∷ ts) vs fs s =
    finish (locate (calls_of p l) place s) (λ found t. rest p l f Ahead ts vs (found ∷ fs) t)
rest p l f Ahead (Points ∷ ts) vs fs s = rest p l f Ahead ts (below vs) (target_of (top vs) ∷ fs) s
rest p l f Ahead (Loads ∷ ts) vs fs s =
    finish (load (top_place fs) s) (λ v t. rest p l f Ahead ts (v ∷ vs) (below fs) t)
rest p l f Ahead (LoadsOld ∷ ts) vs fs s = finish (load (top_place fs) s) (λ v t. rest p l f Ahead ts (v ∷ vs) fs t)
rest p l f Ahead (Addresses ∷ ts) vs fs s = rest p l f Ahead ts (address_of (top_place fs) ∷ vs) (below fs) s
rest p l f Ahead (AppliesUnary of op ∷ ts) vs fs s =
    rest p l f Ahead ts (unary_value of op (top vs) ∷ below vs) fs s
rest p l f Ahead (AppliesBinary within op ∷ ts) vs fs s =
    finish (computed (binary_value within op (top (below vs)) (top vs)) s)
    (λ v t. rest p l f Ahead ts (v ∷ below (below vs)) fs t)
rest p l f Ahead (AndThen b ∷ ts) vs fs s =
    finish (if is_true (top vs)
    then and_then (evaluate (calls_of p l) b s) (λ y t. Gives (truth_value (is_true y)) t)
    else Gives (truth_value false) s) (λ v t. rest p l f Ahead ts (v ∷ below vs) fs t)
rest p l f Ahead (OrElse b ∷ ts) vs fs s =
    finish (if is_true (top vs) then Gives (truth_value true) s
    else and_then (evaluate (calls_of p l) b s) (λ y t. Gives (truth_value (is_true y)) t))
    (λ v t. rest p l f Ahead ts (v ∷ below vs) fs t)
rest p l f Ahead (Truth ∷ ts) vs fs s = rest p l f Ahead ts (truth_value (is_true (top vs)) ∷ below vs) fs s
rest p l f Ahead (Chooses of a b ∷ ts) vs fs s =
    finish (if is_true (top vs) then evaluate (calls_of p l) a s else evaluate (calls_of p l) b s)
    (λ v t. rest p l f Ahead ts (in_type of v ∷ below vs) fs t)
rest p l f Ahead (Converts to ∷ ts) vs fs s = rest p l f Ahead ts (in_type to (top vs) ∷ below vs) fs s
rest p l f Ahead (Stores of ∷ ts) vs fs s =
    finish (store (top_place fs) (in_type of (top vs)) s) (λ v t. rest p l f Ahead ts (v ∷ below vs) (below fs) t)
rest p l f Ahead (Updates of within op ∷ ts) vs fs s =
    finish (updated of within op (top_place fs) (top (below vs)) (top vs) s)
    (λ v t. rest p l f Ahead ts (v ∷ below (below vs)) (below fs) t)
rest p l f Ahead (Steps of op ∷ ts) vs fs s =
    finish (updated of (step_type op of) (step_op op) (top_place fs) (top vs) (HoldsNumber (pos 1)) s)
    (λ v t. rest p l f Ahead ts (step_result op (top vs) v ∷ below vs) (below fs) t)
rest p l f Ahead (Drops ∷ ts) vs fs s = rest p l f Ahead ts (below vs) fs s
rest p l f Ahead (Passes k es count ∷ ts) vs fs s =
    finish (evaluate_all (calls_of p l) es s) (λ ws t.
    finish (calls_of p l k (put_before count vs ws) t) (λ v u. rest p l f Ahead ts (v ∷ below_by count vs) fs u))
rest p l f Ahead (Puts ∷ ts) vs fs s = finish (put (top vs) s) (λ v t. rest p l f Ahead ts (v ∷ below vs) fs t)
rest p l f Ahead (Exits ∷ ts) vs fs s = outcome_at (Ended (low_byte (top vs))) s
rest p l f Ahead (Declares item ∷ ts) vs fs s =
    finish (declare (calls_of p l) l (type_at f) item s) (λ done t. rest p l f Ahead ts vs fs t)
rest p l f Ahead (DeclaresAll items ∷ ts) vs fs s =
    finish (declare_all (calls_of p l) l (type_at f) items s) (λ done t. rest p l f Ahead ts vs fs t)
rest p l f Ahead (Initialises local of ∷ ts) vs fs s =
    rest p l f Ahead ts (below vs) fs (with_local local (in_type of (top vs)) s)
rest p l f Ahead (Fills k element i es ∷ ts) vs fs s =
    finish (fill (calls_of p l) (own_array s k) element i es s) (λ done t. rest p l f Ahead ts vs fs t)
rest p l f Ahead (FillsElement k element i es ∷ ts) vs fs s =
    finish (store (AtIndex (own_array s k) (pos i)) (in_type (Integer element) (top vs)) s) (λ stored t.
    finish (fill (calls_of p l) (own_array t k) element (suc i) es t) (λ done u. rest p l f Ahead ts (below vs) fs u))
rest p l f Ahead (Executes x ∷ ts) vs fs s =
    finish (executed p l f x s) (behind (λ way ws t. rest p l f way ts ws fs t) vs)
rest p l f Ahead (Follows xs ∷ ts) vs fs s =
    finish (executed_from p l f xs 0 s) (behind (λ way ws t. rest p l f way ts ws fs t) vs)
rest p l f Ahead (Branches a b ∷ ts) vs fs s =
    finish (if is_true (top vs) then executed p l f a s else executed p l f b s)
    (behind (λ way ws t. rest p l f way ts ws fs t) (below vs))
rest p l f Ahead (Loops test after body ∷ ts) vs fs s =
    finish (looped p l f test after body s) (behind (λ way ws t. rest p l f way ts ws fs t) vs)
rest p l f Ahead (LoopTest test after body ∷ ts) vs fs s =
    finish (looped_if p l f test after body (is_true (top vs)) s)
    (behind (λ way ws t. rest p l f way ts ws fs t) (below vs))
rest p l f Ahead (LoopBody test after body ∷ ts) vs fs s =
    finish (looped_again p l f test after body s) (behind (λ way ws t. rest p l f way ts ws fs t) vs)
rest p l f Breaking (LoopBody test after body ∷ ts) vs fs s = rest p l f Ahead ts vs fs s
rest p l f Continuing (LoopBody test after body ∷ ts) vs fs s =
    finish (looped_again p l f test after body s) (behind (λ way ws t. rest p l f way ts ws fs t) vs)
rest p l f Ahead (DoLoops body e ∷ ts) vs fs s =
    finish (do_looped p l f body e s) (behind (λ way ws t. rest p l f way ts ws fs t) vs)
rest p l f Ahead (DoBody body e ∷ ts) vs fs s =
    finish (do_looped_again p l f body e s) (behind (λ way ws t. rest p l f way ts ws fs t) vs)
rest p l f Breaking (DoBody body e ∷ ts) vs fs s = rest p l f Ahead ts vs fs s
rest p l f Continuing (DoBody body e ∷ ts) vs fs s =
    finish (do_looped_again p l f body e s) (behind (λ way ws t. rest p l f way ts ws fs t) vs)
rest p l f Ahead (DoTest body e ∷ ts) vs fs s =
    finish (do_looped_if p l f body e (is_true (top vs)) s)
    (behind (λ way ws t. rest p l f way ts ws fs t) (below vs))
rest p l f Ahead (Switches labels body ∷ ts) vs fs s =
    finish (and_then (none_or_from (switched labels (top vs)) (executed_from p l f body) s) after_switch)
    (behind (λ way ws t. rest p l f way ts ws fs t) (below vs))
rest p l f Ahead (SwitchBody ∷ ts) vs fs s = rest p l f Ahead ts vs fs s
rest p l f Breaking (SwitchBody ∷ ts) vs fs s = rest p l f Ahead ts vs fs s
rest p l f Ahead (ReturnsValue result ∷ ts) vs fs s =
    rest p l f Returning ts (in_type result (top vs) ∷ below vs) fs s
rest p l f Returning (ReturnsTo caller ∷ ts) vs fs s =
    rest p l caller Ahead ts vs fs (record s { active = older s.active })
rest p l f way (ReturnsTo caller ∷ ts) vs fs s =
    rest p l caller Ahead ts (HoldsNumber (pos 0) ∷ vs) fs (record s { active = older s.active })
rest p l f way (task ∷ ts) vs fs s = rest p l f way ts vs fs s
