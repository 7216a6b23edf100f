-- Tasks that are passed over.
use Rattle.std.proofs.Common.{◌≡◌, List, refl}
use Rattle.c_tree.specs.Evaluation.{Found}
use Rattle.c_tree.specs.Program.{Function, Statement}
use Rattle.c_tree.specs.Program.{Declare, Empty, Evaluate, Block, If, While, Do, For, Switch, Break, Continue, Return}
use Rattle.c_tree.specs.Store.{Held, State, Gives}
use Rattle.c_eval_laws.specs.Steps.{go_on, pass_over, passing_step}
use Rattle.c_eval_laws.specs.Tasks.{Task, LoopBody, DoBody, SwitchBody, ReturnsTo, Way, Ahead, Breaking, Continuing}
use Rattle.c_eval_laws.specs.Tasks.{Returning}
use Rattle.c_eval.specs.Passing.{IsPlain, IsOther, values_returned}
use Rattle.c_eval_state.specs.Kept.{returned}
use Rattle.c_eval_state.specs.Views.{part_task, task_of}
use Rattle.c_eval_state.specs.declared.task.StatementPart.TheVariants as parts
use Rattle.c_eval_state.specs.declared.task.Task as memory
use Rattle.c_eval_state.specs.declared.task.Task.TheVariants as tasks

-- a plain task is passed over whatever the way
pub plain_passed : (way : Way) (f : Function) (task : Task) (ts : List Task) (vs : List Held) (fs : List Found)
    (s : State) → IsPlain task → passing_step way f task ts vs fs s ≡ Gives (pass_over way f ts vs fs) s
plain_passed Breaking f (LoopBody test after body) ts vs fs s h = absurd h
plain_passed Breaking f (DoBody body test) ts vs fs s h = absurd h
plain_passed Breaking f SwitchBody ts vs fs s h = absurd h
plain_passed Continuing f (LoopBody test after body) ts vs fs s h = absurd h
plain_passed Continuing f (DoBody body test) ts vs fs s h = absurd h
plain_passed Returning f (ReturnsTo caller) ts vs fs s h = absurd h
plain_passed way f (ReturnsTo caller) ts vs fs s h = absurd h
plain_passed way f task ts vs fs s h = refl

-- so are a statement before its turns and behind its test
pub turn_plain : (x : Statement) → IsPlain (part_task parts.Turn x)
turn_plain (Declare item) = tt
turn_plain (Empty n) = tt
turn_plain (Evaluate n e) = tt
turn_plain (Block body) = tt
turn_plain (If n e a b) = tt
turn_plain (While n e body) = tt
turn_plain (Do n body e) = tt
turn_plain (For n first test after body) = tt
turn_plain (Switch n e labels body) = tt
turn_plain (Break n) = tt
turn_plain (Continue n) = tt
turn_plain (Return n value) = tt

pub test_plain : (x : Statement) → IsPlain (part_task parts.Test x)
test_plain (Declare item) = tt
test_plain (Empty n) = tt
test_plain (Evaluate n e) = tt
test_plain (Block body) = tt
test_plain (If n e a b) = tt
test_plain (While n e body) = tt
test_plain (Do n body e) = tt
test_plain (For n first test after body) = tt
test_plain (Switch n e labels body) = tt
test_plain (Break n) = tt
test_plain (Continue n) = tt
test_plain (Return n value) = tt

-- and all tasks but those behind bodies, and the return
pub other_plain : (task : memory.Task) → IsOther task → IsPlain (task_of task)
other_plain (tasks.Evaluates e) h = tt
other_plain (tasks.Locates x) h = tt
other_plain tasks.Points h = tt
other_plain tasks.Loads h = tt
other_plain tasks.LoadsOld h = tt
other_plain tasks.Addresses h = tt
other_plain (tasks.AppliesUnary of op) h = tt
other_plain (tasks.AppliesBinary operator) h = tt
other_plain (tasks.AndThen e) h = tt
other_plain (tasks.OrElse e) h = tt
other_plain tasks.Truth h = tt
other_plain (tasks.Chooses of a b) h = tt
other_plain (tasks.Converts to) h = tt
other_plain (tasks.Stores of) h = tt
other_plain (tasks.Updates of operator) h = tt
other_plain (tasks.Steps of op) h = tt
other_plain tasks.Drops h = tt
other_plain (tasks.Passes k es count) h = tt
other_plain tasks.Puts h = tt
other_plain tasks.Exits h = tt
other_plain (tasks.Declares item) h = tt
other_plain (tasks.DeclaresAll items) h = tt
other_plain (tasks.Initialises local of) h = tt
other_plain (tasks.Fills k element es i) h = tt
other_plain (tasks.FillsElement k element es i) h = tt
other_plain (tasks.Follows xs) h = tt
other_plain (tasks.ReturnsValue result) h = tt
other_plain (tasks.Goes parts.Start x) h = tt
other_plain (tasks.Goes parts.Turn x) h = turn_plain _
other_plain (tasks.Goes parts.Test x) h = test_plain _
other_plain (tasks.Goes parts.Body x) h = absurd h
other_plain (tasks.ReturnsTo caller) h = absurd h

-- `break` leaves a loop or switch behind its body, and `return` doesn't end there
pub break_leaves : (f : Function) (x : Statement) (ts : List Task) (vs : List Held) (fs : List Found) (s : State)
    → passing_step Breaking f (part_task parts.Body x) ts vs fs s ≡ Gives (go_on f ts vs fs) s
break_leaves f (Declare item) ts vs fs s = refl
break_leaves f (Empty n) ts vs fs s = refl
break_leaves f (Evaluate n e) ts vs fs s = refl
break_leaves f (Block body) ts vs fs s = refl
break_leaves f (If n e a b) ts vs fs s = refl
break_leaves f (While n e body) ts vs fs s = refl
break_leaves f (Do n body e) ts vs fs s = refl
break_leaves f (For n first test after body) ts vs fs s = refl
break_leaves f (Switch n e labels body) ts vs fs s = refl
break_leaves f (Break n) ts vs fs s = refl
break_leaves f (Continue n) ts vs fs s = refl
break_leaves f (Return n value) ts vs fs s = refl

pub return_passes : (f : Function) (x : Statement) (ts : List Task) (vs : List Held) (fs : List Found) (s : State)
    → passing_step Returning f (part_task parts.Body x) ts vs fs s ≡ Gives (pass_over Returning f ts vs fs) s
return_passes f (Declare item) ts vs fs s = refl
return_passes f (Empty n) ts vs fs s = refl
return_passes f (Evaluate n e) ts vs fs s = refl
return_passes f (Block body) ts vs fs s = refl
return_passes f (If n e a b) ts vs fs s = refl
return_passes f (While n e body) ts vs fs s = refl
return_passes f (Do n body e) ts vs fs s = refl
return_passes f (For n first test after body) ts vs fs s = refl
return_passes f (Switch n e labels body) ts vs fs s = refl
return_passes f (Break n) ts vs fs s = refl
return_passes f (Continue n) ts vs fs s = refl
return_passes f (Return n value) ts vs fs s = refl

-- the function that called goes on
pub return_passed : (way : Way) (f caller : Function) (ts : List Task) (vs : List Held) (fs : List Found) (s : State)
    → passing_step way f (ReturnsTo caller) ts vs fs s
    ≡ Gives (go_on caller ts (values_returned way vs) fs) (returned s)
return_passed Ahead f caller ts vs fs s = refl
return_passed Breaking f caller ts vs fs s = refl
return_passed Continuing f caller ts vs fs s = refl
return_passed Returning f caller ts vs fs s = refl
