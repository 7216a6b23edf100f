-- Every step of the machine of tasks keeps the outcome of what is left.
use Rattle.std.proofs.Common.{◌≡◌, ℕ, zero, suc, Bool, true, false, List, [], ◌∷◌, Option, Some, None, refl, sym, ap}
use Rattle.std.proofs.Common.{◌∙◌, ◌<◌, arith}
use Rattle.std.specs.Prelude.{if◌then◌else◌, pos}
use Rattle.pcc_base.specs.Outcome.{ArrayName, Listing, Outcome}
use Rattle.c_tree.specs.declared.types.IntegerType.{IntegerType}
use Rattle.c_tree.specs.declared.types.ValueType.TheVariants.{Integer}
use Rattle.c_tree.specs.Evaluation.{AtIndex, Found, Left, Falls, Breaks, Continues, Returns, after_body, after_switch}
use Rattle.c_tree.specs.Evaluation.{computed, declare, evaluate, evaluated_if_any, execute, execute_from, load}
use Rattle.c_tree.specs.Evaluation.{none_or_from, store, switched, tested, tested_if_any, truth_value, updated}
use Rattle.c_tree.specs.Evaluation.{after_statement, fill, own_array, type_at, Setting}
use Rattle.c_tree.specs.Operators.{binary_value, is_true, step_op, step_type}
use Rattle.c_tree.specs.Program.{Expression, Statement, Statements, Done, Next, Function, Program}
use Rattle.c_tree.specs.Store.{Held, HoldsNumber, in_type, State, Evaluated, Gives, and_then, take_turn}
use Rattle.c_eval_laws.proofs.Agreeing.{loops_unfold}
use Rattle.c_eval_laws.proofs.Keeping.{store-keeps}
use Rattle.c_eval_laws.specs.Tasks.{Task, Evaluates, Locates, Points, Loads, LoadsOld, Addresses, AppliesUnary}
use Rattle.c_eval_laws.specs.Tasks.{AppliesBinary, AndThen, OrElse, Truth, Chooses, Converts, Stores, Updates, Steps}
use Rattle.c_eval_laws.specs.Tasks.{Drops, Passes, Puts, Exits, Declares, DeclaresAll, Initialises, Fills, FillsElement}
use Rattle.c_eval_laws.specs.Tasks.{Executes, Follows, Branches, Loops, LoopTest, LoopBody, DoLoops, DoBody, DoTest}
use Rattle.c_eval_laws.specs.Tasks.{Switches, SwitchBody, ReturnsValue, ReturnsTo, Way, Ahead, Breaking, Continuing}
use Rattle.c_eval_laws.specs.Tasks.{Returning, top, top_place, below, calls_of, do_looped, do_looped_again}
use Rattle.c_eval_laws.specs.Tasks.{do_looped_if, executed, executed_from, finish, looped, looped_again, looped_if}
use Rattle.c_eval_laws.specs.Tasks.{rest, setting_of}
use Rattle.c_eval_laws.specs.Steps.{body_if, do_if, from_label, go_on, loop_again, rest_after, rest_of}
use Rattle.c_eval_laws.specs.Steps.{statements_from, step, task_step, turn_of}
use Rattle.c_eval_laws.specs.TasksLaws.{Keeps, StepsKeep, TasksStep}
use Rattle.c_eval_laws.proofs.Calling.{calls_step}
use Rattle.c_eval_laws.proofs.Expressions.{expressions_step, places_step}
use Rattle.c_eval_laws.proofs.Finishing.{finish-depth, finish-same, finish-then, finish-turn, finish-under}
use Rattle.c_eval_laws.proofs.Finishing.{same-array}
use Rattle.c_eval_laws.proofs.Settling.{do-body-settles, loop-parts, statements-settle, test-settles, trees-keep}
use Rattle.c_eval_laws.proofs.Statements.{items_step, left_to, statements_step}

module _ (p : Program) (l : Listing) (f : Function) (ts : List Task) where
  -- ---- values

  -- `&&` and `||` behind their left sides
  and-kept : (b : Expression) (vs : List Held) (fs : List Found) (s : State) (holds : Bool)
      → finish (if holds then and_then (evaluate (calls_of p l) b s) (λ y t. Gives (truth_value (is_true y)) t)
      else Gives (truth_value false) s) (λ v t. rest p l f Ahead ts (v ∷ vs) fs t)
      ≡ rest_of p l (if holds then go_on f (Evaluates b ∷ Truth ∷ ts) vs fs
      else go_on f ts (truth_value false ∷ vs) fs) s
  unfolding rest
  and-kept b vs fs s true = finish-then (evaluate (calls_of p l) b s) _ _
  and-kept b vs fs s false = refl

  or-kept : (b : Expression) (vs : List Held) (fs : List Found) (s : State) (holds : Bool)
      → finish (if holds then Gives (truth_value true) s
      else and_then (evaluate (calls_of p l) b s) (λ y t. Gives (truth_value (is_true y)) t))
      (λ v t. rest p l f Ahead ts (v ∷ vs) fs t)
      ≡ rest_of p l (if holds then go_on f ts (truth_value true ∷ vs) fs
      else go_on f (Evaluates b ∷ Truth ∷ ts) vs fs) s
  unfolding rest
  or-kept b vs fs s true = refl
  or-kept b vs fs s false = finish-then (evaluate (calls_of p l) b s) _ _

  -- one of two expressions
  choice-kept : (a b : Expression) (s : State) (go : Held → State → Outcome) (holds : Bool)
      → finish (if holds then evaluate (calls_of p l) a s else evaluate (calls_of p l) b s) go
      ≡ finish (evaluate (calls_of p l) (if holds then a else b) s) go
  choice-kept a b s go true = refl
  choice-kept a b s go false = refl

  -- ---- statements

  -- one of two statements
  branch-kept : (a b : Statement) (s : State) (go : Left → State → Outcome) (holds : Bool)
      → finish (if holds then executed p l f a s else executed p l f b s) go
      ≡ finish (executed p l f (if holds then a else b) s) go
  branch-kept a b s go true = refl
  branch-kept a b s go false = refl

  module _ (vs : List Held) (fs : List Found) where
    -- statements in order
    next-kept : (others : Statements) (bound : ℕ) (s : State) → s.turns < bound → (left : Left)
        → finish (after_statement (execute_from (setting_of p l f bound) others 0) left s) (left_to p l f ts vs fs)
        ≡ left_to p l f (Follows others ∷ ts) vs fs left s
    unfolding rest
    next-kept others bound s lt Falls = ap (λ (r : Evaluated Left). finish r (left_to p l f ts vs fs))
        (statements-settle p l f bound others 0 s lt)
    next-kept others bound s lt Breaks = refl
    next-kept others bound s lt Continues = refl
    next-kept others bound s lt (Returns value) = refl

    -- the body of a loop, and what comes behind it
    loop-body-kept : (test after : Option Expression) (body : Statement) (left : Left) (s : State)
        → finish (after_body (looped_again p l f test after body) left s) (left_to p l f ts vs fs)
        ≡ left_to p l f (LoopBody test after body ∷ ts) vs fs left s
    unfolding rest
    loop-body-kept test after body Falls s = refl
    loop-body-kept test after body Breaks s = refl
    loop-body-kept test after body Continues s = refl
    loop-body-kept test after body (Returns value) s = refl

    do-body-kept : (body : Statement) (test : Expression) (left : Left) (s : State)
        → finish (after_body (do_looped_again p l f body test) left s) (left_to p l f ts vs fs)
        ≡ left_to p l f (DoBody body test ∷ ts) vs fs left s
    unfolding rest
    do-body-kept body test Falls s = refl
    do-body-kept body test Breaks s = refl
    do-body-kept body test Continues s = refl
    do-body-kept body test (Returns value) s = refl

    -- a loop behind its test
    loop-test-kept : (test after : Option Expression) (body : Statement) (s : State) (holds : Bool)
        → finish (looped_if p l f test after body holds s) (left_to p l f ts vs fs)
        ≡ rest_of p l (go_on f (body_if holds test after body ts) vs fs) s
    unfolding rest
    loop-test-kept test after body s true = finish-then (executed p l f body s) _ _
        ∙ finish-same (executed p l f body s) _ _ (loop-body-kept test after body)
    loop-test-kept test after body s false = refl

    -- a loop behind its body
    loop-again-kept : (test after : Option Expression) (body : Statement) (s : State)
        → finish (looped_again p l f test after body s) (left_to p l f ts vs fs)
        ≡ rest_of p l (go_on f (loop_again test after body ts) vs fs) s
    unfolding rest
    loop-again-kept test None body s = refl
    loop-again-kept test (Some e) body s = finish-then (evaluated_if_any (calls_of p l) (Some e) s) _ _
        ∙ finish-then (evaluate (calls_of p l) e s) _ _

    -- a turn of a loop
    turn-kept : (test after : Option Expression) (body : Statement) (s : State)
        → finish (and_then (tested_if_any (calls_of p l) test s) (looped_if p l f test after body))
        (left_to p l f ts vs fs)
        ≡ rest_of p l (go_on f (turn_of test after body ts) vs fs) s
    unfolding rest
    turn-kept None after body s = loop-test-kept None after body s true
    turn-kept (Some e) after body s = finish-then (tested_if_any (calls_of p l) (Some e) s) _ _
        ∙ finish-then (evaluate (calls_of p l) e s) _ _

    -- a loop takes a turn
    loop-kept : (test after : Option Expression) (body : Statement) (s : State)
        → finish (looped p l f test after body s) (left_to p l f ts vs fs)
        ≡ rest_after p l (take_turn s (λ t. Gives (go_on f (turn_of test after body ts) vs fs) t))
    unfolding rest
    loop-kept test after body s =
        ap (λ (r : Evaluated Left). finish r (left_to p l f ts vs fs))
        ((loops_unfold (suc s.turns) (tested_if_any (calls_of p l) test) (execute (setting_of p l f (suc s.turns)) body)
        (evaluated_if_any (calls_of p l) after) s (omega arith) (loop-parts p l f body test after (suc s.turns))).0)
        ∙ finish-turn s _ _ _ _ (λ n e.
        ap (λ (r : Evaluated Left). finish r (left_to p l f ts vs fs))
        (test-settles p l f body test after (suc s.turns) (record s { turns = n }) (omega (arith, e)))
        ∙ turn-kept test after body (record s { turns = n }))

    -- a `do` takes a turn
    do-kept : (body : Statement) (test : Expression) (s : State)
        → finish (do_looped p l f body test s) (left_to p l f ts vs fs)
        ≡ rest_after p l (take_turn s (λ t. Gives (go_on f (Executes body ∷ DoBody body test ∷ ts) vs fs) t))
    unfolding rest
    do-kept body test s =
        ap (λ (r : Evaluated Left). finish r (left_to p l f ts vs fs))
        ((loops_unfold (suc s.turns) (tested (calls_of p l) test) (execute (setting_of p l f (suc s.turns)) body)
        (evaluated_if_any (calls_of p l) None) s (omega arith)
        (loop-parts p l f body (Some test) None (suc s.turns))).1)
        ∙ finish-turn s _ _ _ _ (λ n e.
        ap (λ (r : Evaluated Left). finish r (left_to p l f ts vs fs))
        (do-body-settles p l f body test (suc s.turns) (record s { turns = n }) (omega (arith, e)))
        ∙ finish-then (executed p l f body (record s { turns = n })) _ _
        ∙ finish-same (executed p l f body (record s { turns = n })) _ _ (do-body-kept body test))

    -- a `do` behind its body, and behind its test
    do-again-kept : (body : Statement) (test : Expression) (s : State)
        → finish (do_looped_again p l f body test s) (left_to p l f ts vs fs)
        ≡ rest_of p l (go_on f (Evaluates test ∷ DoTest body test ∷ ts) vs fs) s
    unfolding rest
    do-again-kept body test s = finish-then (tested (calls_of p l) test s) _ _
        ∙ finish-then (evaluate (calls_of p l) test s) _ _

    do-test-kept : (body : Statement) (test : Expression) (s : State) (holds : Bool)
        → finish (do_looped_if p l f body test holds s) (left_to p l f ts vs fs)
        ≡ rest_of p l (go_on f (do_if holds body test ts) vs fs) s
    unfolding rest
    do-test-kept body test s true = refl
    do-test-kept body test s false = refl

    -- statements from a place on
    from-kept : (within : Setting) (xs : Statements) (place : ℕ) (s : State)
        → execute_from within xs place s ≡ execute_from within (statements_from xs place) 0 s
    from-kept within Done place s = refl
    from-kept within (Next x xs) zero s = refl
    from-kept within (Next x xs) (suc place) s = from-kept within xs place s

    -- behind the body of a switch
    switch-body-kept : (left : Left) (s : State) → finish (after_switch left s) (left_to p l f ts vs fs)
        ≡ left_to p l f (SwitchBody ∷ ts) vs fs left s
    unfolding rest
    switch-body-kept Falls s = refl
    switch-body-kept Breaks s = refl
    switch-body-kept Continues s = refl
    switch-body-kept (Returns value) s = refl

    -- a switch goes to a label
    switch-kept : (place : Option ℕ) (body : Statements) (s : State)
        → finish (and_then (none_or_from place (executed_from p l f body) s) after_switch) (left_to p l f ts vs fs)
        ≡ rest_of p l (go_on f (from_label place body ts) vs fs) s
    unfolding rest
    switch-kept None body s = refl
    switch-kept (Some place) body s =
        ap (λ (r : Evaluated Left). finish (and_then r after_switch) (left_to p l f ts vs fs))
        (from-kept (setting_of p l f (suc s.turns)) body place s)
        ∙ finish-then (executed_from p l f (statements_from body place) 0 s) _ _
        ∙ finish-same (executed_from p l f (statements_from body place) 0 s) _ _ switch-body-kept

-- an element of an array is evaluated, and then stored to: as many calls are active as before, so that the array is the
-- same
fill-kept : (p : Program) (l : Listing) (f : Function) (ts : List Task) (vs : List Held) (fs : List Found) (k : ℕ)
    (element : IntegerType) (i : ℕ) (e : Expression) (es : List Expression) (s : State)
    → Keeps p l f Ahead (Fills k element i (e ∷ es) ∷ ts) vs fs s
    (task_step p l f (Fills k element i (e ∷ es)) ts vs fs s)
unfolding rest
fill-kept p l f ts vs fs k element i e es s =
    finish-then (evaluate (calls_of p l) e s) _ _
    ∙ finish-depth s (evaluate (calls_of p l) e s) _ _ ((trees-keep p l 0).expressions e s) (λ v t d.
    finish-then (store (AtIndex (own_array s k) (pos i)) (in_type (Integer element) v) t) _ _
    ∙ finish-depth t (store (AtIndex (own_array s k) (pos i)) (in_type (Integer element) v) t) _ _
    (store-keeps 0 (AtIndex (own_array s k) (pos i)) (in_type (Integer element) v) t) (λ stored u d'.
    ap (λ (a : ArrayName). finish (fill (calls_of p l) a element (suc i) es u) (λ done w. rest p l f Ahead ts vs fs w))
    (sym (same-array k u s (d' ∙ d))))
    ∙ ap (λ (a : ArrayName). finish (store (AtIndex a (pos i)) (in_type (Integer element) v) t) (λ stored u.
    finish (fill (calls_of p l) (own_array u k) element (suc i) es u) (λ done w. rest p l f Ahead ts vs fs w)))
    (sym (same-array k t s d)))

-- a task is done
pub tasks_step : TasksStep
unfolding rest
tasks_step p l f (Evaluates e) ts vs fs s = expressions_step p l f e ts vs fs s
tasks_step p l f (Locates place) ts vs fs s = places_step p l f place ts vs fs s
tasks_step p l f Points ts vs fs s = refl
tasks_step p l f Loads ts vs fs s = sym (finish-then (load (top_place fs) s) _ _)
tasks_step p l f LoadsOld ts vs fs s = sym (finish-then (load (top_place fs) s) _ _)
tasks_step p l f Addresses ts vs fs s = refl
tasks_step p l f (AppliesUnary of op) ts vs fs s = refl
tasks_step p l f (AppliesBinary within op) ts vs fs s =
    sym (finish-then (computed (binary_value within op (top (below vs)) (top vs)) s) _ _)
tasks_step p l f (AndThen b) ts vs fs s = and-kept p l f ts b (below vs) fs s (is_true (top vs))
tasks_step p l f (OrElse b) ts vs fs s = or-kept p l f ts b (below vs) fs s (is_true (top vs))
tasks_step p l f Truth ts vs fs s = refl
tasks_step p l f (Chooses of a b) ts vs fs s = choice-kept p l f ts a b s _ (is_true (top vs))
tasks_step p l f (Converts to) ts vs fs s = refl
tasks_step p l f (Stores of) ts vs fs s = sym (finish-then (store (top_place fs) (in_type of (top vs)) s) _ _)
tasks_step p l f (Updates of within op) ts vs fs s =
    sym (finish-then (updated of within op (top_place fs) (top (below vs)) (top vs) s) _ _)
tasks_step p l f (Steps of op) ts vs fs s =
    sym (finish-then (updated of (step_type op of) (step_op op) (top_place fs) (top vs) (HoldsNumber (pos 1)) s) _ _)
tasks_step p l f Drops ts vs fs s = refl
tasks_step p l f (Passes k es count) ts vs fs s = calls_step p l f k es count ts vs fs s
tasks_step p l f Puts ts vs fs s = refl
tasks_step p l f Exits ts vs fs s = refl
tasks_step p l f (Declares item) ts vs fs s = items_step p l f item ts vs fs s
tasks_step p l f (DeclaresAll []) ts vs fs s = refl
tasks_step p l f (DeclaresAll (item ∷ items)) ts vs fs s =
    finish-then (declare (calls_of p l) l (type_at f) item s) _ _
tasks_step p l f (Initialises local of) ts vs fs s = refl
tasks_step p l f (Fills array element i []) ts vs fs s = refl
tasks_step p l f (Fills k element i (e ∷ es)) ts vs fs s = fill-kept p l f ts vs fs k element i e es s
tasks_step p l f (FillsElement k element i es) ts vs fs s =
    sym (finish-then (store (AtIndex (own_array s k) (pos i)) (in_type (Integer element) (top vs)) s) _ _)
tasks_step p l f (Executes x) ts vs fs s = statements_step p l f x ts vs fs s
tasks_step p l f (Follows Done) ts vs fs s = refl
tasks_step p l f (Follows (Next x xs)) ts vs fs s = finish-then (executed p l f x s) _ _
    ∙ finish-under 0 s (executed p l f x s) _ _
    ((trees-keep p l 0).statements (suc s.turns) l (type_at f) f.result x s (omega arith))
    (λ left t lower. next-kept p l f ts vs fs xs (suc s.turns) t (omega (arith, lower)) left)
tasks_step p l f (Branches a b) ts vs fs s = branch-kept p l f ts a b s _ (is_true (top vs))
tasks_step p l f (Loops test after body) ts vs fs s = loop-kept p l f ts vs fs test after body s
tasks_step p l f (LoopTest test after body) ts vs fs s =
    loop-test-kept p l f ts (below vs) fs test after body s (is_true (top vs))
tasks_step p l f (LoopBody test after body) ts vs fs s = loop-again-kept p l f ts vs fs test after body s
tasks_step p l f (DoLoops body test) ts vs fs s = do-kept p l f ts vs fs body test s
tasks_step p l f (DoBody body test) ts vs fs s = do-again-kept p l f ts vs fs body test s
tasks_step p l f (DoTest body test) ts vs fs s =
    do-test-kept p l f ts (below vs) fs body test s (is_true (top vs))
tasks_step p l f (Switches labels body) ts vs fs s =
    switch-kept p l f ts (below vs) fs (switched labels (top vs)) body s
tasks_step p l f SwitchBody ts vs fs s = refl
tasks_step p l f (ReturnsValue result) ts vs fs s = refl
tasks_step p l f (ReturnsTo caller) ts vs fs s = refl

-- a task is passed over
passed : (p : Program) (l : Listing) (f : Function) (way : Way) (task : Task) (ts : List Task) (vs : List Held)
    (fs : List Found) (s : State)
    → Keeps p l f way (task ∷ ts) vs fs s (step p l f way (task ∷ ts) vs fs s)
unfolding rest
passed p l f Ahead task ts vs fs s = tasks_step p l f task ts vs fs s
passed p l f Continuing (LoopBody test after body) ts vs fs s = loop-again-kept p l f ts vs fs test after body s
passed p l f Continuing (DoBody body test) ts vs fs s = do-again-kept p l f ts vs fs body test s
passed p l f Breaking (LoopBody test after body) ts vs fs s = refl
passed p l f Breaking (DoBody body test) ts vs fs s = refl
passed p l f Returning (LoopBody test after body) ts vs fs s = refl
passed p l f Returning (DoBody body test) ts vs fs s = refl
passed p l f way task ts vs fs s = refl

-- every step
pub steps_keep : StepsKeep
unfolding rest
steps_keep p l f way [] vs fs s = refl
steps_keep p l f way (task ∷ ts) vs fs s = passed p l f way task ts vs fs s
