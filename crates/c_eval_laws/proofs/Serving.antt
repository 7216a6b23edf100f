-- The stacks hold what the tasks take, after each step.
use Rattle.std.proofs.Common.{◌≤◌, ℕ, zero, suc, Bool, true, false, List, [], ◌∷◌, length, Option}
use Rattle.std.proofs.Common.{Some, None, refl, arith}
use Rattle.std.specs.Prelude.{pos, if◌then◌else◌, nat_le, slice_get}
use Rattle.pcc_base.specs.Outcome.{Listing, Trapped}
use Rattle.pcc_base.specs.declared.run.Trap.TheVariants.{Check}
use Rattle.c_tree.specs.declared.types.ValueType.TheVariants.{Integer}
use Rattle.c_tree.specs.Evaluation.{Found, AtIndex, load, store, computed}
use Rattle.c_tree.specs.Evaluation.{get_from, own_array, updated, most_active, switched}
use Rattle.c_tree.specs.Operators.{binary_value, is_true, step_op, step_type}
use Rattle.c_tree.specs.Program.{Expression, Constant, Start, Read, Address, Unary, Binary, And, Or, Conditional, Cast}
use Rattle.c_tree.specs.Program.{Assign, Update, Step, Comma, Call, Putchar, Getchar, Exit, Place, LocalPlace}
use Rattle.c_tree.specs.Program.{StaticPlace, Target, Element, Arguments, NoMore, Argument, Elements, Text, Item}
use Rattle.c_tree.specs.Program.{Scalar, Array, Nothing, Evaluated as EvaluatedFirst, Declared, Statement}
use Rattle.c_tree.specs.Program.{Declare, Empty, Evaluate, Block, If, While, Do, For, Switch, Break, Continue, Return}
use Rattle.c_tree.specs.Program.{Statements, Done, Next, Function, Program}
use Rattle.c_tree.specs.Store.{Held, HoldsNumber, in_type, State, Evaluated, Gives, Ends, and_then, turn_with}
use Rattle.c_tree.specs.Store.{take_turn}
use Rattle.c_eval_laws.specs.Tasks.{Task, Evaluates, Locates, Points, Loads, LoadsOld, Addresses, AppliesUnary}
use Rattle.c_eval_laws.specs.Tasks.{AppliesBinary, AndThen, OrElse, Truth, Chooses, Converts, Stores, Updates, Steps}
use Rattle.c_eval_laws.specs.Tasks.{Drops, Passes, Puts, Exits, Declares, DeclaresAll, Initialises, Fills, FillsElement}
use Rattle.c_eval_laws.specs.Tasks.{Executes, Follows, Branches, Loops, LoopTest, LoopBody, DoLoops, DoBody, DoTest}
use Rattle.c_eval_laws.specs.Tasks.{Switches, SwitchBody, ReturnsValue, ReturnsTo, Way, Ahead, Breaking, Continuing}
use Rattle.c_eval_laws.specs.Tasks.{Returning, top, top_place, below, below_by, put_before}
use Rattle.c_eval_laws.specs.Steps.{Configuration, go_on, call_step, arguments_step, expression_step, place_step}
use Rattle.c_eval_laws.specs.Steps.{item_step, statement_step, from_label, turn_of, body_if, loop_again, do_if, step}
use Rattle.c_eval_laws.specs.Steps.{task_step}
use Rattle.c_eval_laws.specs.Stacks.{With, EachWay, StacksFit, StacksFitAfter}
use Rattle.c_eval_laws.specs.TasksLaws.{IsServed, StacksStayFit, StartFits}

-- ---- so many are there

with-one : {A : Type 0} (xs : List A) (Left : ℕ → Type 0) → With 1 (length xs) Left → Left (length (below xs))
with-one [] Left h = absurd h
with-one (x ∷ xs) Left h = h

with-two : {A : Type 0} (xs : List A) (Left : ℕ → Type 0) → With 2 (length xs) Left
    → Left (length (below (below xs)))
with-two [] Left h = absurd h
with-two (x ∷ []) Left h = absurd h
with-two (x ∷ y ∷ xs) Left h = h

with-many : (count : ℕ) (vs : List Held) (Left : ℕ → Type 0) → With count (length vs) Left
    → Left (length (below_by count vs))
with-many zero vs Left h = h
with-many (suc count) [] Left h = absurd h
with-many (suc count) (v ∷ vs) Left h = with-many count vs Left h

-- a place that is looked at stays
with-same : {A : Type 0} (xs : List A) (Left : ℕ → Type 0) → With 1 (length xs) (λ k. Left (suc k)) → Left (length xs)
with-same [] Left h = absurd h
with-same (x ∷ xs) Left h = h

with-enough : (count there : ℕ) (Left : ℕ → Type 0) → With count there Left → count ≤ there
with-enough zero there Left h = omega arith
with-enough (suc count) zero Left h = absurd h
with-enough (suc count) (suc there) Left h = omega (arith, with-enough count there Left h)

-- a place behind values
both-enough : (count n m : ℕ) (Left : ℕ → ℕ → Type 0) → With count n (λ k. With 1 m (λ j. Left k j)) → 1 ≤ m
both-enough zero n m Left h = with-enough 1 m (Left n) h
both-enough (suc count) zero m Left h = absurd h
both-enough (suc count) (suc n) m Left h = both-enough count n m Left h

-- ---- steps

-- what is given goes on with tasks that fit
gives-fit : {A : Type 0} (r : Evaluated A) (after : A → Configuration) → ((v : A) (t : State)
    → StacksFitAfter (Gives (after v) t)) → StacksFitAfter (and_then r (λ v t. Gives (after v) t))
gives-fit (Gives v t) after fits = fits v t
gives-fit (Ends end t) after fits = tt

-- a turn is taken
turn-fits : (s : State) (c : Configuration) (change : State → State) → StacksFitAfter (Gives c s)
    → StacksFitAfter (take_turn s (λ t. Gives c (change t)))
turn-fits s c change fits = by_turns s.turns
  where
    by_turns : (n : ℕ) → StacksFitAfter (turn_with n s (λ t. Gives c (change t)))
    by_turns zero = tt
    by_turns (suc n) = fits

-- a call too many ends the program
unless-full : (s : State) (full : Bool) (r : Evaluated Configuration) → StacksFitAfter r
    → StacksFitAfter (if full then Ends (Trapped Check) s else r)
unless-full s true r h = tt
unless-full s false r h = h

module _ (p : Program) (l : Listing) (f : Function) (ts : List Task) where
  -- an expression
  expression-fits : (e : Expression) (vs : List Held) (fs : List Found) (s : State)
      → StacksFit Ahead ts (suc (length vs)) (length fs) → StacksFitAfter (expression_step f e ts vs fs s)
  unfolding StacksFit
  expression-fits (Constant of n) vs fs s h = h
  expression-fits (Start element array) vs fs s h = h
  expression-fits (Read of place) vs fs s h = h
  expression-fits (Address element place) vs fs s h = h
  expression-fits (Unary of op e) vs fs s h = h
  expression-fits (Binary of op a b) vs fs s h = h
  expression-fits (And a b) vs fs s h = h
  expression-fits (Or a b) vs fs s h = h
  expression-fits (Conditional of t a b) vs fs s h = h
  expression-fits (Cast to e) vs fs s h = h
  expression-fits (Assign of place e) vs fs s h = h
  expression-fits (Update of op place e) vs fs s h = h
  expression-fits (Step of op place) vs fs s h = h
  expression-fits (Comma a b) vs fs s h = h
  expression-fits (Call of k arguments) vs fs s h = h
  expression-fits (Putchar e) vs fs s h = h
  expression-fits Getchar vs fs s h = gives-fit (get_from s.left s) _ (λ v t. h)
  expression-fits (Exit e) vs fs s h = h

  -- a place
  place-fits : (place : Place) (vs : List Held) (fs : List Found) (s : State)
      → StacksFit Ahead ts (length vs) (suc (length fs)) → StacksFitAfter (place_step f place ts vs fs s)
  unfolding StacksFit
  place-fits (LocalPlace v) vs fs s h = h
  place-fits (StaticPlace k) vs fs s h = h
  place-fits (Target element e) vs fs s h = h
  place-fits (Element element a i) vs fs s h = h

  -- a declared item
  item-fits : (item : Item) (vs : List Held) (fs : List Found) (s : State)
      → StacksFit Ahead ts (length vs) (length fs) → StacksFitAfter (item_step l f item ts vs fs s)
  unfolding StacksFit
  item-fits (Scalar n v None) vs fs s h = h
  item-fits (Scalar n v (Some e)) vs fs s h = h
  item-fits (Array n k element (Elements es)) vs fs s h = h
  item-fits (Array n k element (Text object)) vs fs s h = h

  -- a function is called
  call-fits : (g : Option Function) (arguments vs : List Held) (fs : List Found) (s : State)
      → StacksFit Ahead ts (suc (length vs)) (length fs) → StacksFitAfter (call_step f g arguments ts vs fs s)
  unfolding StacksFit
  call-fits None arguments vs fs s h = h
  call-fits (Some g) arguments vs fs s h = unless-full s (nat_le most_active (length s.active)) _
      (turn-fits s _ _ (h, h, h, h))

  -- the next argument, or the call
  arguments-fit : (k : ℕ) (arguments : Arguments) (count : ℕ) (vs : List Held) (fs : List Found) (s : State)
      → With count (length vs) (λ n. StacksFit Ahead ts (suc n) (length fs))
      → StacksFitAfter (arguments_step p f k arguments count ts vs fs s)
  unfolding StacksFit
  arguments-fit k NoMore count vs fs s h = call-fits (slice_get p.functions k) (put_before count vs [])
      (below_by count vs) fs s (with-many count vs (λ n. StacksFit Ahead ts (suc n) (length fs)) h)
  arguments-fit k (Argument e others) count vs fs s h = h

  -- ---- statements, which are left in each way

  -- what stands behind fits, however a statement is left
  abbrev Each : ℕ → ℕ → Type 0
  Each n m = EachWay (λ way k. StacksFit way ts k m) n

  statement-fits : (x : Statement) (vs : List Held) (fs : List Found) (s : State) → Each (length vs) (length fs)
      → StacksFitAfter (statement_step l f x ts vs fs s)
  unfolding StacksFit
  statement-fits (Declare item) vs fs s h = h.0
  statement-fits (Empty n) vs fs s h = h.0
  statement-fits (Evaluate n e) vs fs s h = h.0
  statement-fits (Block body) vs fs s h = h
  statement-fits (If n e a b) vs fs s h = h
  statement-fits (While n e body) vs fs s h = h
  statement-fits (Do n body e) vs fs s h = h
  statement-fits (For n Nothing test after body) vs fs s h = h
  statement-fits (For n (EvaluatedFirst e) test after body) vs fs s h = h
  statement-fits (For n (Declared items) test after body) vs fs s h = h
  statement-fits (Switch n e labels body) vs fs s h = h
  statement-fits (Break n) vs fs s h = h.1
  statement-fits (Continue n) vs fs s h = h.2
  statement-fits (Return n None) vs fs s h = h.3
  statement-fits (Return n (Some e)) vs fs s h = h.3

  -- the turn of a loop
  turn-of-fits : (test after : Option Expression) (body : Statement) (vs : List Held) (fs : List Found) (s : State)
      → Each (length vs) (length fs) → StacksFitAfter (Gives (go_on f (turn_of test after body ts) vs fs) s)
  unfolding StacksFit
  turn-of-fits None after body vs fs s h = (h, h.0, h, h.3)
  turn-of-fits (Some e) after body vs fs s h = h

  -- a loop behind its test, and behind its body
  body-fits : (holds : Bool) (test after : Option Expression) (body : Statement) (vs : List Held) (fs : List Found)
      (s : State) → Each (length vs) (length fs)
      → StacksFitAfter (Gives (go_on f (body_if holds test after body ts) vs fs) s)
  unfolding StacksFit
  body-fits true test after body vs fs s h = (h, h.0, h, h.3)
  body-fits false test after body vs fs s h = h.0

  again-fits : (test after : Option Expression) (body : Statement) (vs : List Held) (fs : List Found) (s : State)
      → Each (length vs) (length fs) → StacksFitAfter (Gives (go_on f (loop_again test after body ts) vs fs) s)
  unfolding StacksFit
  again-fits test None body vs fs s h = h
  again-fits test (Some e) body vs fs s h = h

  -- a `do` behind its test
  do-fits : (holds : Bool) (body : Statement) (test : Expression) (vs : List Held) (fs : List Found) (s : State)
      → Each (length vs) (length fs) → StacksFitAfter (Gives (go_on f (do_if holds body test ts) vs fs) s)
  unfolding StacksFit
  do-fits true body test vs fs s h = h
  do-fits false body test vs fs s h = h.0

  -- a switch from its label on
  label-fits : (place : Option ℕ) (body : Statements) (vs : List Held) (fs : List Found) (s : State)
      → Each (length vs) (length fs) → StacksFitAfter (Gives (go_on f (from_label place body ts) vs fs) s)
  unfolding StacksFit
  label-fits None body vs fs s h = h.0
  label-fits (Some place) body vs fs s h = (h.0, h.0, h.2, h.3)

  -- `&&` and `||` behind their left sides
  and-fits : (holds : Bool) (b : Expression) (v : Held) (vs : List Held) (fs : List Found) (s : State)
      → StacksFit Ahead ts (suc (length vs)) (length fs)
      → StacksFitAfter (Gives (if holds then go_on f (Evaluates b ∷ Truth ∷ ts) vs fs else go_on f ts (v ∷ vs) fs) s)
  unfolding StacksFit
  and-fits true b v vs fs s h = h
  and-fits false b v vs fs s h = h

  or-fits : (holds : Bool) (b : Expression) (v : Held) (vs : List Held) (fs : List Found) (s : State)
      → StacksFit Ahead ts (suc (length vs)) (length fs)
      → StacksFitAfter (Gives (if holds then go_on f ts (v ∷ vs) fs else go_on f (Evaluates b ∷ Truth ∷ ts) vs fs) s)
  unfolding StacksFit
  or-fits true b v vs fs s h = h
  or-fits false b v vs fs s h = h

  -- ---- what takes values and places

  one-more : (vs : List Held) (fs : List Found) → With 1 (length vs) (λ n. StacksFit Ahead ts (suc n) (length fs))
      → StacksFit Ahead ts (suc (length (below vs))) (length fs)
  one-more vs fs h = with-one vs (λ n. StacksFit Ahead ts (suc n) (length fs)) h

  -- a value and a place
  value-and-place : (vs : List Held) (fs : List Found)
      → With 1 (length vs) (λ n. With 1 (length fs) (λ m. StacksFit Ahead ts (suc n) m))
      → StacksFit Ahead ts (suc (length (below vs))) (length (below fs))
  value-and-place vs fs h = with-one fs (λ m. StacksFit Ahead ts (suc (length (below vs))) m)
      (with-one vs (λ n. With 1 (length fs) (λ m. StacksFit Ahead ts (suc n) m)) h)

  -- two values and a place
  values-and-place : (vs : List Held) (fs : List Found)
      → With 2 (length vs) (λ n. With 1 (length fs) (λ m. StacksFit Ahead ts (suc n) m))
      → StacksFit Ahead ts (suc (length (below (below vs)))) (length (below fs))
  values-and-place vs fs h = with-one fs (λ m. StacksFit Ahead ts (suc (length (below (below vs)))) m)
      (with-two vs (λ n. With 1 (length fs) (λ m. StacksFit Ahead ts (suc n) m)) h)

  -- what a statement takes before
  each-below : (vs : List Held) (fs : List Found) → With 1 (length vs) (λ n. Each n (length fs))
      → Each (length (below vs)) (length fs)
  each-below vs fs h = with-one vs (λ n. Each n (length fs)) h

-- a task is done
task-fits : (p : Program) (l : Listing) (f : Function) (task : Task) (ts : List Task) (vs : List Held)
    (fs : List Found) (s : State) → StacksFit Ahead (task ∷ ts) (length vs) (length fs)
    → StacksFitAfter (task_step p l f task ts vs fs s)
unfolding StacksFit
task-fits p l f (Evaluates e) ts vs fs s h = expression-fits p l f ts e vs fs s h
task-fits p l f (Locates place) ts vs fs s h = place-fits p l f ts place vs fs s h
task-fits p l f Points ts vs fs s h = with-one vs (λ n. StacksFit Ahead ts n (suc (length fs))) h
task-fits p l f Loads ts vs fs s h = gives-fit (load (top_place fs) s) _
    (λ v t. with-one fs (λ m. StacksFit Ahead ts (suc (length vs)) m) h)
task-fits p l f LoadsOld ts vs fs s h = gives-fit (load (top_place fs) s) _
    (λ v t. with-same fs (λ m. StacksFit Ahead ts (suc (length vs)) m) h)
task-fits p l f Addresses ts vs fs s h = with-one fs (λ m. StacksFit Ahead ts (suc (length vs)) m) h
task-fits p l f (AppliesUnary of op) ts vs fs s h = one-more p l f ts vs fs h
task-fits p l f (AppliesBinary within op) ts vs fs s h =
    gives-fit (computed (binary_value within op (top (below vs)) (top vs)) s) _
    (λ v t. with-two vs (λ n. StacksFit Ahead ts (suc n) (length fs)) h)
task-fits p l f (AndThen b) ts vs fs s h =
    and-fits p l f ts (is_true (top vs)) b _ (below vs) fs s (one-more p l f ts vs fs h)
task-fits p l f (OrElse b) ts vs fs s h =
    or-fits p l f ts (is_true (top vs)) b _ (below vs) fs s (one-more p l f ts vs fs h)
task-fits p l f Truth ts vs fs s h = one-more p l f ts vs fs h
task-fits p l f (Chooses of a b) ts vs fs s h = one-more p l f ts vs fs h
task-fits p l f (Converts to) ts vs fs s h = one-more p l f ts vs fs h
task-fits p l f (Stores of) ts vs fs s h = gives-fit (store (top_place fs) (in_type of (top vs)) s) _
    (λ v t. value-and-place p l f ts vs fs h)
task-fits p l f (Updates of within op) ts vs fs s h =
    gives-fit (updated of within op (top_place fs) (top (below vs)) (top vs) s) _
    (λ v t. values-and-place p l f ts vs fs h)
task-fits p l f (Steps of op) ts vs fs s h =
    gives-fit (updated of (step_type op of) (step_op op) (top_place fs) (top vs) (HoldsNumber (pos 1)) s) _
    (λ v t. value-and-place p l f ts vs fs h)
task-fits p l f Drops ts vs fs s h = with-one vs (λ n. StacksFit Ahead ts n (length fs)) h
task-fits p l f (Passes k es count) ts vs fs s h = arguments-fit p l f ts k es count vs fs s h
task-fits p l f Puts ts vs fs s h = one-more p l f ts vs fs h
task-fits p l f Exits ts vs fs s h = tt
task-fits p l f (Declares item) ts vs fs s h = item-fits p l f ts item vs fs s h
task-fits p l f (DeclaresAll []) ts vs fs s h = h
task-fits p l f (DeclaresAll (item ∷ items)) ts vs fs s h = h
task-fits p l f (Initialises local of) ts vs fs s h = with-one vs (λ n. StacksFit Ahead ts n (length fs)) h
task-fits p l f (Fills array element i []) ts vs fs s h = h
task-fits p l f (Fills array element i (e ∷ es)) ts vs fs s h = h
task-fits p l f (FillsElement array element i es) ts vs fs s h =
    gives-fit (store (AtIndex (own_array s array) (pos i)) (in_type (Integer element) (top vs)) s) _
    (λ v t. with-one vs (λ n. StacksFit Ahead ts n (length fs)) h)
task-fits p l f (Executes x) ts vs fs s h = statement-fits p l f ts x vs fs s h
task-fits p l f (Follows Done) ts vs fs s h = h.0
task-fits p l f (Follows (Next x xs)) ts vs fs s h = (h, h.1, h.2, h.3)
task-fits p l f (Branches a b) ts vs fs s h = each-below p l f ts vs fs h
task-fits p l f (Loops test after body) ts vs fs s h =
    turn-fits s (go_on f (turn_of test after body ts) vs fs) _ (turn-of-fits p l f ts test after body vs fs s h)
task-fits p l f (LoopTest test after body) ts vs fs s h =
    body-fits p l f ts (is_true (top vs)) test after body (below vs) fs s (each-below p l f ts vs fs h)
task-fits p l f (LoopBody test after body) ts vs fs s h = again-fits p l f ts test after body vs fs s h
task-fits p l f (DoLoops body test) ts vs fs s h =
    turn-fits s (go_on f (Executes body ∷ DoBody body test ∷ ts) vs fs) _ (h, h.0, h, h.3)
task-fits p l f (DoBody body test) ts vs fs s h = h
task-fits p l f (DoTest body test) ts vs fs s h =
    do-fits p l f ts (is_true (top vs)) body test (below vs) fs s (each-below p l f ts vs fs h)
task-fits p l f (Switches labels body) ts vs fs s h =
    label-fits p l f ts (switched labels (top vs)) body (below vs) fs s (each-below p l f ts vs fs h)
task-fits p l f SwitchBody ts vs fs s h = h
task-fits p l f (ReturnsValue result) ts vs fs s h =
    with-one vs (λ n. StacksFit Returning ts (suc n) (length fs)) h
task-fits p l f (ReturnsTo caller) ts vs fs s h = h

-- a value that is returned is on the stack
return-fits : (caller : Function) (ts : List Task) (vs : List Held) (fs : List Found) (s : State)
    → With 1 (length vs) (λ n. StacksFit Ahead ts (suc n) (length fs))
    → StacksFitAfter (Gives (go_on caller ts vs fs) s)
unfolding StacksFit
return-fits caller ts vs fs s h = with-same vs (λ n. StacksFit Ahead ts n (length fs)) h

-- a task is passed over
passing-fits : (p : Program) (l : Listing) (f : Function) (way : Way) (task : Task) (ts : List Task) (vs : List Held)
    (fs : List Found) (s : State) → StacksFit way (task ∷ ts) (length vs) (length fs)
    → StacksFitAfter (step p l f way (task ∷ ts) vs fs s)
unfolding StacksFit
passing-fits p l f Ahead task ts vs fs s h = task-fits p l f task ts vs fs s h
passing-fits p l f Continuing (LoopBody test after body) ts vs fs s h = again-fits p l f ts test after body vs fs s h
passing-fits p l f Continuing (DoBody body test) ts vs fs s h = h
passing-fits p l f Returning (ReturnsTo caller) ts vs fs s h = return-fits caller ts vs fs s h
passing-fits p l f Breaking SwitchBody ts vs fs s h = h
passing-fits p l f way task ts vs fs s h = h

-- after every step the stacks fit again
pub stacks_stay_fit : StacksStayFit
stacks_stay_fit p l f way [] vs fs s h = tt
stacks_stay_fit p l f way (task ∷ ts) vs fs s h = passing-fits p l f way task ts vs fs s h

-- the first tasks fit empty stacks
pub start_fits : StartFits
unfolding StacksFit
start_fits p = (refl, refl)

-- ---- what a task takes

-- one value, two, and a place
pub is_served : IsServed
unfolding StacksFit
is_served Points ts n m h = (with-enough 1 n _ h, omega arith)
is_served Loads ts n m h = (omega arith, with-enough 1 m _ h)
is_served LoadsOld ts n m h = (omega arith, with-enough 1 m _ h)
is_served Addresses ts n m h = (omega arith, with-enough 1 m _ h)
is_served (AppliesUnary of op) ts n m h = (with-enough 1 n _ h, omega arith)
is_served (AppliesBinary within op) ts n m h = (with-enough 2 n _ h, omega arith)
is_served (AndThen b) ts n m h = (with-enough 1 n _ h, omega arith)
is_served (OrElse b) ts n m h = (with-enough 1 n _ h, omega arith)
is_served Truth ts n m h = (with-enough 1 n _ h, omega arith)
is_served (Chooses of a b) ts n m h = (with-enough 1 n _ h, omega arith)
is_served (Converts to) ts n m h = (with-enough 1 n _ h, omega arith)
is_served (Stores of) ts n m h = (with-enough 1 n _ h, both-enough 1 n m _ h)
is_served (Updates of within op) ts n m h = (with-enough 2 n _ h, both-enough 2 n m _ h)
is_served (Steps of op) ts n m h = (with-enough 1 n _ h, both-enough 1 n m _ h)
is_served Drops ts n m h = (with-enough 1 n _ h, omega arith)
is_served (Passes function arguments count) ts n m h = (with-enough count n _ h, omega arith)
is_served Puts ts n m h = (with-enough 1 n _ h, omega arith)
is_served Exits ts n m h = (with-enough 1 n _ h, omega arith)
is_served (Initialises local of) ts n m h = (with-enough 1 n _ h, omega arith)
is_served (FillsElement array element i es) ts n m h = (with-enough 1 n _ h, omega arith)
is_served (Branches a b) ts n m h = (with-enough 1 n _ h, omega arith)
is_served (LoopTest test after body) ts n m h = (with-enough 1 n _ h, omega arith)
is_served (DoTest body test) ts n m h = (with-enough 1 n _ h, omega arith)
is_served (Switches labels body) ts n m h = (with-enough 1 n _ h, omega arith)
is_served (ReturnsValue result) ts n m h = (with-enough 1 n _ h, omega arith)
is_served _ ts n m h = (omega arith, omega arith)
