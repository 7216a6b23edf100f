-- What tasks and stacks in memory stand for, in the words of `c_eval_laws`.
use Rattle.std.specs.Prelude.{ℕ, ℤ, Bool, List, [], ◌∷◌, map, reverse, drop, Option, Some, None, suc}
use Rattle.c_tree.specs.Erased.{expression_of, place_of, item_of, statement_of, statements_of, function_of}
use Rattle.c_tree.specs.declared.expression.Expression as built
use Rattle.c_tree.specs.Program.{Expression, Arguments, NoMore, Argument, Statement}
use Rattle.c_tree.specs.Program.{While, For, Do, If, Switch}
use Rattle.c_tree.specs.Evaluation.{is_case, is_default}
use Rattle.c_eval_laws.specs.Tasks as tasks
use Rattle.c_eval_state.specs.declared.task.Task.{Task}
use Rattle.c_eval_state.specs.declared.task.Task.TheVariants as memory
use Rattle.c_eval_state.specs.declared.task.StatementPart.{StatementPart}
use Rattle.c_eval_state.specs.declared.task.StatementPart.TheVariants as parts
use Rattle.c_eval_state.specs.declared.task.Way.{Way}
use Rattle.c_eval_state.specs.declared.task.Way.TheVariants as ways

-- whether a label has this value, or is `default` where it is none
abbrev pub has_label : Option ℤ → Option ℤ → Bool
has_label None = is_default
has_label (Some value) = is_case value

-- a stack whose last element in memory is the first
abbrev pub stack_of : {A B : Type 0} → (A → B) → List A → List B
stack_of of items = reverse (map of items)

abbrev pub arguments_list : List built.Expression → Arguments
arguments_list [] = NoMore
arguments_list (e ∷ es) = Argument (expression_of e) (arguments_list es)

abbrev pub way_of : Way → tasks.Way
way_of ways.Ahead = tasks.Ahead
way_of ways.Breaking = tasks.Breaking
way_of ways.Continuing = tasks.Continuing
way_of ways.Returning = tasks.Returning

-- rows of trees from a place on
abbrev pub arguments_from : ℕ → List built.Expression → Arguments
arguments_from place es = arguments_list (drop place es)

abbrev pub elements_from : ℕ → List built.Expression → List Expression
elements_from place es = map expression_of (drop place es)

-- A part of a statement. One that a statement hasn't is never left to do; for it a task stands that takes the same.
abbrev pub part_task : StatementPart → Statement → tasks.Task
part_task parts.Start x = tasks.Executes x
part_task parts.Turn (While n e body) = tasks.Loops (Some e) None body
part_task parts.Turn (For n first test after body) = tasks.Loops test after body
part_task parts.Turn (Do n body e) = tasks.DoLoops body e
part_task parts.Turn _ = tasks.Drops
part_task parts.Test (If n e a b) = tasks.Branches a b
part_task parts.Test (While n e body) = tasks.LoopTest (Some e) None body
part_task parts.Test (For n first test after body) = tasks.LoopTest test after body
part_task parts.Test (Do n body e) = tasks.DoTest body e
part_task parts.Test (Switch n e labels body) = tasks.Switches labels body
part_task parts.Test _ = tasks.Drops
part_task parts.Body (While n e body) = tasks.LoopBody (Some e) None body
part_task parts.Body (For n first test after body) = tasks.LoopBody test after body
part_task parts.Body (Do n body e) = tasks.DoBody body e
part_task parts.Body _ = tasks.SwitchBody

abbrev pub task_of : Task → tasks.Task
task_of (memory.Evaluates e) = tasks.Evaluates (expression_of e.now)
task_of (memory.Locates place) = tasks.Locates (place_of place.now)
task_of memory.Points = tasks.Points
task_of memory.Loads = tasks.Loads
task_of memory.LoadsOld = tasks.LoadsOld
task_of memory.Addresses = tasks.Addresses
task_of (memory.AppliesUnary of op) = tasks.AppliesUnary of op
task_of (memory.AppliesBinary operator) = tasks.AppliesBinary operator.within operator.op
task_of (memory.AndThen e) = tasks.AndThen (expression_of e.now)
task_of (memory.OrElse e) = tasks.OrElse (expression_of e.now)
task_of memory.Truth = tasks.Truth
task_of (memory.Chooses of a b) = tasks.Chooses of (expression_of a.now) (expression_of b.now)
task_of (memory.Converts to) = tasks.Converts to
task_of (memory.Stores of) = tasks.Stores of
task_of (memory.Updates of operator) = tasks.Updates of operator.within operator.op
task_of (memory.Steps of op) = tasks.Steps of op
task_of memory.Drops = tasks.Drops
task_of (memory.Passes f es count) = tasks.Passes f (arguments_from count es.now) count
task_of memory.Puts = tasks.Puts
task_of memory.Exits = tasks.Exits
task_of (memory.Declares item) = tasks.Declares (item_of item.now)
task_of (memory.DeclaresAll items) = tasks.DeclaresAll (map item_of items.now)
task_of (memory.Initialises local of) = tasks.Initialises local of
task_of (memory.Fills array element es place) = tasks.Fills array element place (elements_from place es.now)
task_of (memory.FillsElement array element es place) =
    tasks.FillsElement array element place (elements_from (suc place) es.now)
task_of (memory.Goes part x) = part_task part (statement_of x.now)
task_of (memory.Follows xs) = tasks.Follows (statements_of xs.now)
task_of (memory.ReturnsValue result) = tasks.ReturnsValue result
task_of (memory.ReturnsTo caller) = tasks.ReturnsTo (function_of caller.now)
