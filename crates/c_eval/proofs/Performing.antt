-- What the step of a task leaves.
use Rattle.std.proofs.Common.{◌≡◌, ◌≤◌, ◌<◌, ℕ, zero, suc, true, false, List, [], ◌∷◌, length, refl}
use Rattle.std.proofs.Common.{sym, ap}
use Rattle.std.proofs.Common.{subst, ◌∙◌, arith}
use Rattle.std.specs.Prelude.{map, option_map, slice_get, pos, Option, Some, None}
use Rattle.std.proofs.lemmas.Bool.{false≢true}
use Rattle.pcc_base.specs.Outcome.{Listing, nothing_listed}
use Rattle.c_tree.specs.Erased.{function_of}
use Rattle.c_tree.specs.declared.expression.Expression as built
use Rattle.c_tree.specs.declared.program.Function as memory_function
use Rattle.c_tree.specs.Program.{Arguments, NoMore, Function, Item, Scalar, Array, Program, Statement}
use Rattle.c_tree.specs.Program.{Declare, Empty, Evaluate, Block, If, While, Do, For, Switch, Break, Continue, Return}
use Rattle.c_tree.specs.Store.{HoldsNumber, State, Gives}
use Rattle.c_eval_laws.specs.Steps.{Configuration}
use Rattle.c_eval_laws.specs.Tasks.{Task, Ahead, Declares, Drops, Executes, Passes, ReturnsTo}
use Rattle.c_eval_laws.specs.Tasks.{Way}
use Rattle.c_eval_laws.specs.Stacks.{StacksFit}
use Rattle.c_eval_laws.proofs.Serving.{is_served}
use Rattle.c_eval_laws.specs.Weights.{is_there, is_turn}
use Rattle.c_eval_state.specs.Kept.{Kept, over}
use Rattle.c_eval_state.specs.Changes.{IsLoop, after_start, doing, done, holding, item_done, seen, statement_done}
use Rattle.c_eval_state.specs.Changes.{without_values}
use Rattle.c_eval.specs.Passing.{passed}
use Rattle.c_eval_state.specs.Views.{arguments_from, part_task, task_of}
use Rattle.c_eval_state.specs.declared.task.StatementPart.TheVariants as parts
use Rattle.c_eval_state.specs.declared.task.Task as memory
use Rattle.c_eval_state.specs.declared.task.Task.TheVariants as tasks
use Rattle.c_eval_state.proofs.Stacking.{arguments_past}
use Rattle.c_eval.specs.Performs.{Done, Fits, IsPlain, is_loop}

-- a task that visits nothing
pub done_plain : (p : Program) (task : Task) (old new : Configuration) (kept kept' : Kept) → is_turn p task ≡ false
    → ((s : State) → done p nothing_listed task old (over s kept) ≡ Gives new (over s kept'))
    → Done p task old kept new kept'
done_plain p task old new kept kept' still e = record { no_turn = still; visits = λ s. s.visits; gives = e }

-- plain tasks take no turn
pub plain_no_turn : (p : Program) (task : memory.Task) → IsPlain task → is_turn p (task_of task) ≡ false
plain_no_turn p (tasks.Evaluates e) h = absurd h
plain_no_turn p (tasks.Locates x) h = refl
plain_no_turn p tasks.Points h = refl
plain_no_turn p tasks.Loads h = refl
plain_no_turn p tasks.LoadsOld h = refl
plain_no_turn p tasks.Addresses h = refl
plain_no_turn p (tasks.AppliesUnary of op) h = refl
plain_no_turn p (tasks.AppliesBinary operator) h = refl
plain_no_turn p (tasks.AndThen e) h = refl
plain_no_turn p (tasks.OrElse e) h = refl
plain_no_turn p tasks.Truth h = refl
plain_no_turn p (tasks.Chooses of a b) h = refl
plain_no_turn p (tasks.Converts to) h = refl
plain_no_turn p (tasks.Stores of) h = refl
plain_no_turn p (tasks.Updates of operator) h = refl
plain_no_turn p (tasks.Steps of op) h = refl
plain_no_turn p tasks.Drops h = refl
plain_no_turn p (tasks.Passes k es count) h = absurd h
plain_no_turn p tasks.Puts h = absurd h
plain_no_turn p tasks.Exits h = refl
plain_no_turn p (tasks.Declares item) h = absurd h
plain_no_turn p (tasks.DeclaresAll items) h = refl
plain_no_turn p (tasks.Initialises local of) h = refl
plain_no_turn p (tasks.Fills k element es i) h = refl
plain_no_turn p (tasks.FillsElement k element es i) h = refl
plain_no_turn p (tasks.Follows xs) h = refl
plain_no_turn p (tasks.ReturnsValue result) h = refl
plain_no_turn p (tasks.Goes part x) h = absurd h
plain_no_turn p (tasks.ReturnsTo caller) h = refl

-- neither do statements behind their tests and bodies
pub test_no_turn : (p : Program) (x : Statement) → is_turn p (part_task parts.Test x) ≡ false
test_no_turn p (Declare item) = refl
test_no_turn p (Empty n) = refl
test_no_turn p (Evaluate n e) = refl
test_no_turn p (Block body) = refl
test_no_turn p (If n e a b) = refl
test_no_turn p (While n e body) = refl
test_no_turn p (Do n body e) = refl
test_no_turn p (For n first test after body) = refl
test_no_turn p (Switch n e labels body) = refl
test_no_turn p (Break n) = refl
test_no_turn p (Continue n) = refl
test_no_turn p (Return n value) = refl

pub body_no_turn : (p : Program) (x : Statement) → is_turn p (part_task parts.Body x) ≡ false
body_no_turn p (Declare item) = refl
body_no_turn p (Empty n) = refl
body_no_turn p (Evaluate n e) = refl
body_no_turn p (Block body) = refl
body_no_turn p (If n e a b) = refl
body_no_turn p (While n e body) = refl
body_no_turn p (Do n body e) = refl
body_no_turn p (For n first test after body) = refl
body_no_turn p (Switch n e labels body) = refl
body_no_turn p (Break n) = refl
body_no_turn p (Continue n) = refl
body_no_turn p (Return n value) = refl

-- a statement that starts is at most visited
start_visits : (x : Statement) (s : State) (kept : Kept) → after_start nothing_listed x (over s kept)
    ≡ over (record s { visits = (after_start nothing_listed x (over s kept)).visits }) kept
start_visits (Declare item) s kept = refl
start_visits (Empty n) s kept = refl
start_visits (Evaluate n e) s kept = refl
start_visits (Block body) s kept = refl
start_visits (If n e a b) s kept = refl
start_visits (While n e body) s kept = refl
start_visits (Do n body e) s kept = refl
start_visits (For n first test after body) s kept = refl
start_visits (Switch n e labels body) s kept = refl
start_visits (Break n) s kept = refl
start_visits (Continue n) s kept = refl
start_visits (Return n value) s kept = refl

pub done_start : (p : Program) (x : Statement) (old new : Configuration) (kept : Kept)
    → ((s : State) → statement_done nothing_listed x old s ≡ Gives new (after_start nothing_listed x s))
    → Done p (Executes x) old kept new kept
done_start p x old new kept e = record {
  no_turn = refl;
  visits = λ s. (after_start nothing_listed x (over s kept)).visits;
  gives = λ s. e (over s kept) ∙ ap (λ (t : State). Gives new t) (start_visits x s kept);
}

-- so is an item
seen_visits : (item : Item) (s : State) (kept kept' : Kept) → over (seen nothing_listed item (over s kept)) kept'
    ≡ over (record s { visits = (seen nothing_listed item (over s kept)).visits }) kept'
seen_visits (Scalar n local value) s kept kept' = refl
seen_visits (Array n array element value) s kept kept' = refl

pub done_item : (p : Program) (item : Item) (old new : Configuration) (kept kept' : Kept)
    → ((s : State) → item_done nothing_listed item old (over s kept)
    ≡ Gives new (over (seen nothing_listed item (over s kept)) kept'))
    → Done p (Declares item) old kept new kept'
done_item p item old new kept kept' e = record {
  no_turn = refl;
  visits = λ s. (seen nothing_listed item (over s kept)).visits;
  gives = λ s. e s ∙ ap (λ (t : State). Gives new t) (seen_visits item s kept kept');
}

-- an argument that is passed takes no turn
argument_no_turn : (p : Program) (k n count : ℕ) (es : List built.Expression) → count < length es
    → is_turn p (Passes k (arguments_from count es) n) ≡ false
argument_no_turn p k n zero [] h = absurd (omega arith)
argument_no_turn p k n (suc count) [] h = absurd (omega arith)
argument_no_turn p k n zero (e ∷ es) h = refl
argument_no_turn p k n (suc count) (e ∷ es) h = argument_no_turn p k n count es (omega arith)

pub done_argument : (p : Program) (k count : ℕ) (es : List built.Expression) (old new : Configuration) (kept : Kept)
    → count < length es
    → ((s : State) → done p nothing_listed (Passes k (arguments_from count es) count) old s ≡ Gives new s)
    → Done p (Passes k (arguments_from count es) count) old kept new kept
done_argument p k count es old new kept lt e =
    done_plain p (Passes k (arguments_from count es) count) old new kept kept
    (argument_no_turn p k count count es lt) (λ s. e (over s kept))

-- a function by its number
get_map : (fs : List memory_function.Function) (k : ℕ)
    → slice_get (map function_of fs) k ≡ option_map function_of (slice_get fs k)
get_map [] k = refl
get_map (g ∷ fs) zero = refl
get_map (g ∷ fs) (suc k) = get_map fs k

pub function_there : (fs : List memory_function.Function) (k : ℕ) (f : memory_function.Function)
    → slice_get fs k ≡ Some f → slice_get (map function_of fs) k ≡ Some (function_of f)
function_there fs k f e =
    get_map fs k ∙ ap (λ (o : Option memory_function.Function). option_map function_of o) e

pub none_there : (fs : List memory_function.Function) (k : ℕ) → slice_get fs k ≡ None
    → slice_get (map function_of fs) k ≡ None
none_there fs k e = get_map fs k ∙ ap (λ (o : Option memory_function.Function). option_map function_of o) e

-- the arguments of a call are evaluated
pub all_passed : (k count : ℕ) (es : List built.Expression) → length es ≤ count
    → Passes k (arguments_from count es) count ≡ Passes k NoMore count
all_passed k count es h = ap (λ (rest : Arguments). Passes k rest count) (arguments_past es count h)

-- a call of a function that isn't there
none_step : (p : Program) (k count : ℕ) (old : Configuration) (s : State) → slice_get p.functions k ≡ None
    → old.way ≡ Ahead → done p nothing_listed (Passes k NoMore count) old s
    ≡ Gives (holding (HoldsNumber (pos 0)) (without_values count old)) s
none_step p k count old s none ahead = rw (none, ahead) refl

pub done_none : (p : Program) (k count : ℕ) (es : List built.Expression) (old new : Configuration) (kept : Kept)
    → length es ≤ count → slice_get p.functions k ≡ None → old.way ≡ Ahead
    → new ≡ holding (HoldsNumber (pos 0)) (without_values count old)
    → Done p (Passes k (arguments_from count es) count) old kept new kept
done_none p k count es old new kept h none ahead e =
    subst (λ (task : Task). Done p task old kept new kept) (sym (all_passed k count es h))
    (done_plain p (Passes k NoMore count) old new kept kept
    (ap is_there none)
    (λ s. none_step p k count old (over s kept) none ahead
    ∙ ap (λ (c : Configuration). Gives c (over s kept)) (sym e)))

-- a loop waits for its turn, and any other statement has none
pub loop_waits : (x : Statement) → is_loop x ≡ true → IsLoop x
loop_waits (Declare item) h = absurd (false≢true h)
loop_waits (Empty n) h = absurd (false≢true h)
loop_waits (Evaluate n e) h = absurd (false≢true h)
loop_waits (Block body) h = absurd (false≢true h)
loop_waits (If n e a b) h = absurd (false≢true h)
loop_waits (While n e body) h = tt
loop_waits (Do n body e) h = tt
loop_waits (For n first test after body) h = tt
loop_waits (Switch n e labels body) h = absurd (false≢true h)
loop_waits (Break n) h = absurd (false≢true h)
loop_waits (Continue n) h = absurd (false≢true h)
loop_waits (Return n value) h = absurd (false≢true h)

pub done_other : (p : Program) (x : Statement) (old new : Configuration) (kept : Kept) → is_loop x ≡ false
    → ((s : State) → done p nothing_listed Drops old s ≡ Gives new s)
    → Done p (part_task parts.Turn x) old kept new kept
done_other p (Declare item) old new kept h e = done_plain p Drops old new kept kept refl (λ s. e (over s kept))
done_other p (Empty n) old new kept h e = done_plain p Drops old new kept kept refl (λ s. e (over s kept))
done_other p (Evaluate n x) old new kept h e = done_plain p Drops old new kept kept refl (λ s. e (over s kept))
done_other p (Block body) old new kept h e = done_plain p Drops old new kept kept refl (λ s. e (over s kept))
done_other p (If n x a b) old new kept h e = done_plain p Drops old new kept kept refl (λ s. e (over s kept))
done_other p (While n x body) old new kept h e = absurd (false≢true (sym h))
done_other p (Do n body x) old new kept h e = absurd (false≢true (sym h))
done_other p (For n first test after body) old new kept h e = absurd (false≢true (sym h))
done_other p (Switch n x labels body) old new kept h e =
    done_plain p Drops old new kept kept refl (λ s. e (over s kept))
done_other p (Break n) old new kept h e = done_plain p Drops old new kept kept refl (λ s. e (over s kept))
done_other p (Continue n) old new kept h e = done_plain p Drops old new kept kept refl (λ s. e (over s kept))
done_other p (Return n value) old new kept h e = done_plain p Drops old new kept kept refl (λ s. e (over s kept))

-- where the tasks are done, a function that ends gives 0
pub return_ahead : (p : Program) (l : Listing) (caller : Function) (c : Configuration) (s : State) → c.way ≡ Ahead
    → done p l (ReturnsTo caller) c s ≡ passed (ReturnsTo caller) c s
return_ahead p l caller c s h = rw h refl

-- a call finds its arguments
pub passes_served : (k count : ℕ) (es : Arguments) (c : Configuration) → c.way ≡ Ahead
    → Fits (doing (Passes k es count) c) → count ≤ length c.values
passes_served k count es c ahead fits = (is_served (Passes k es count) c.tasks (length c.values) (length c.places)
    (subst (λ (w : Way). StacksFit w (Passes k es count ∷ c.tasks) (length c.values) (length c.places)) ahead fits)).0
