-- What calls leave of what is left to do.
use Rattle.std.specs.Prelude.{◌≡◌, [], ◌∷◌, ℕ, Bool, true, false, Option, Some, None, pos, Result, Ok, Err}
use Rattle.pcc_base.specs.Outcome.{Listing}
use Rattle.pcc_base.specs.Outcome as outcome
use Rattle.c_tree.specs.declared.types.ValueType.{ValueType}
use Rattle.c_tree.specs.Evaluation.{Found}
use Rattle.c_tree.specs.Program.{Expression, Place, Program, First, Item, Scalar, Array, Statement, Statements}
use Rattle.c_tree.specs.Program.{Getchar, Read, Address, Assign, Update, Step, Unary, Binary, And, Or, Conditional}
use Rattle.c_tree.specs.Program.{Cast, Comma, Putchar, Exit}
use Rattle.c_tree.specs.Program.{Function}
use Rattle.c_tree.specs.Program.{Declare, Empty, Evaluate, Block, If, While, Do, For, Switch, Break, Continue, Return}
use Rattle.c_tree.specs.Store.{Held, HoldsNumber, State, Gives, Ends, visited}
use Rattle.c_eval_laws.specs.Steps.{Configuration, Stepped, expression_step, place_step, task_step}
use Rattle.c_eval_laws.specs.Steps.{before_loop, go_on, first_value, from_label, item_step, statement_step}
use Rattle.c_eval_state.specs.Views.{task_of}
use Rattle.c_eval_state.specs.declared.task.Task as memory
use Rattle.c_eval_state.specs.declared.end.EvalEnd.{EvalEnd}
use Rattle.c_eval_state.specs.declared.end.EvalEnd.TheVariants.{Ended, Trapped, TurnsSpent, ReadFault, WriteFault, NoMemory}
use Rattle.c_eval_laws.specs.Tasks.{Task, Evaluates, Drops, ReturnsValue, Way, Ahead, Returning, Follows, ReturnsTo}
use Rattle.c_eval_laws.specs.Tasks.{below, below_by}

-- tasks are to be done before all others, in order
abbrev pub doing : Task → Configuration → Configuration
doing task c = record c { tasks = task ∷ c.tasks }

abbrev pub doing_both : Task → Task → Configuration → Configuration
doing_both a b c = record c { tasks = a ∷ b ∷ c.tasks }

abbrev pub doing_three : Task → Task → Task → Configuration → Configuration
doing_three a b d c = record c { tasks = a ∷ b ∷ d ∷ c.tasks }

abbrev pub doing_four : Task → Task → Task → Task → Configuration → Configuration
doing_four a b d e c = record c { tasks = a ∷ b ∷ d ∷ e ∷ c.tasks }

-- tasks are passed over
abbrev pub passing_over : Way → Configuration → Configuration
passing_over way c = record c { way = way }

-- the function that called goes on
abbrev pub returning_to : Function → Configuration → Configuration
returning_to caller c = record c { function = caller; way = Ahead }

-- a function's body begins, where so many values are its arguments
abbrev pub calling : Function → ℕ → Configuration → Configuration
calling g count c = go_on g (Follows g.body ∷ ReturnsTo c.function ∷ c.tasks) (below_by count c.values) c.places

-- a task is taken, or there is none
abbrev pub TaskTaken : Configuration → Configuration → Option memory.Task → Type 0
TaskTaken old new None = (old.tasks ≡ []) × (new ≡ old)
TaskTaken old new (Some task) = old ≡ doing (task_of task) new

-- what a `for`, a `return` and a turn of a loop begin with
abbrev pub starting_for : First → Task → Configuration → Configuration
starting_for first loop c = record c { tasks = before_loop first (loop ∷ c.tasks) }

abbrev pub starting_return : Option Expression → Configuration → Configuration
starting_return None c = record c { way = Returning; values = HoldsNumber (pos 0) ∷ c.values }
starting_return (Some e) c = record c { tasks = Evaluates e ∷ ReturnsValue c.function.result ∷ c.tasks }

abbrev pub going_again : Option Expression → Task → Configuration → Configuration
going_again None loop c = record c { tasks = loop ∷ c.tasks }
going_again (Some e) loop c = record c { tasks = Evaluates e ∷ Drops ∷ loop ∷ c.tasks }

-- a local's first value, if it has one
abbrev pub first_value_comes : ℕ → ValueType → Option Expression → Configuration → Configuration
first_value_comes local of value c = record c { tasks = first_value local of value c.tasks }

-- where a switch goes on, whose value goes
abbrev pub going_to_label : Option ℕ → Statements → Configuration → Configuration
going_to_label label body c = record c { tasks = from_label label body c.tasks; values = below c.values }

-- a value, or a place, comes, or the last one goes
abbrev pub holding : Held → Configuration → Configuration
holding value c = record c { values = value ∷ c.values }

abbrev pub at_place : Found → Configuration → Configuration
at_place place c = record c { places = place ∷ c.places }

abbrev pub without_value : Configuration → Configuration
without_value c = record c { values = below c.values }

abbrev pub without_values : ℕ → Configuration → Configuration
without_values count c = record c { values = below_by count c.values }

abbrev pub without_place : Configuration → Configuration
without_place c = record c { places = below c.places }

-- ---- the steps of the meaning, from a configuration whose tasks are those behind the one that is done

abbrev pub expression_done : Expression → Configuration → State → Stepped
expression_done e c s = expression_step c.function e c.tasks c.values c.places s

abbrev pub place_done : Place → Configuration → State → Stepped
place_done place c s = place_step c.function place c.tasks c.values c.places s

abbrev pub statement_done : Listing → Statement → Configuration → State → Stepped
statement_done l x c s = statement_step l c.function x c.tasks c.values c.places s

-- the state in which a statement goes on, which is visited where it has a number
abbrev pub after_start : Listing → Statement → State → State
after_start l (Declare item) s = s
after_start l (Empty n) s = visited l n s
after_start l (Evaluate n e) s = visited l n s
after_start l (Block body) s = s
after_start l (If n e a b) s = visited l n s
after_start l (While n e body) s = visited l n s
after_start l (Do n body e) s = visited l n s
after_start l (For n first test after body) s = visited l n s
after_start l (Switch n e labels body) s = visited l n s
after_start l (Break n) s = visited l n s
after_start l (Continue n) s = visited l n s
after_start l (Return n value) s = visited l n s

abbrev pub item_done : Listing → Item → Configuration → State → Stepped
item_done l item c s = item_step l c.function item c.tasks c.values c.places s

-- the state in which an item is visited
abbrev pub seen : Listing → Item → State → State
seen l (Scalar n local value) s = visited l n s
seen l (Array n array element value) s = visited l n s

abbrev pub done : Program → Listing → Task → Configuration → State → Stepped
done p l task c s = task_step p l c.function task c.tasks c.values c.places s

-- What a step comes to: it goes on with this left to do and this state, or ends in the state as the meaning says. For
-- want of memory nothing is known.
abbrev pub Comes : Result Unit EvalEnd → Stepped → Configuration → State → Type 0
Comes (Ok it) stepped c s = stepped ≡ Gives c s
Comes (Err (Ended status)) stepped c s = stepped ≡ Ends (outcome.Ended status) s
Comes (Err (Trapped trap)) stepped c s = stepped ≡ Ends (outcome.Trapped trap) s
Comes (Err TurnsSpent) stepped c s = stepped ≡ Ends outcome.Goes s
Comes (Err ReadFault) stepped c s = ⊥
Comes (Err WriteFault) stepped c s = ⊥
Comes (Err NoMemory) stepped c s = Unit {0}

-- a statement that takes turns (C99 6.8.5)
abbrev pub IsLoop : Statement → Type 0
IsLoop (While n e body) = Unit {0}
IsLoop (Do n body e) = Unit {0}
IsLoop (For n first test after body) = Unit {0}
IsLoop _ = ⊥

-- a jump (C99 6.8.6)
abbrev pub IsJump : Statement → Type 0
IsJump (Break n) = Unit {0}
IsJump (Continue n) = Unit {0}
IsJump (Return n value) = Unit {0}
IsJump _ = ⊥

-- an expression that begins with a place, which it reads, stores to or takes the address of
abbrev pub IsAccess : Expression → Type 0
IsAccess (Read of place) = Unit {0}
IsAccess (Address element place) = Unit {0}
IsAccess (Assign of place e) = Unit {0}
IsAccess (Update of op place e) = Unit {0}
IsAccess (Step of op place) = Unit {0}
IsAccess _ = ⊥

-- an expression that begins with its operand, or the first one
abbrev pub IsOnOperands : Expression → Type 0
IsOnOperands (Unary of op e) = Unit {0}
IsOnOperands (Binary of op a b) = Unit {0}
IsOnOperands (And a b) = Unit {0}
IsOnOperands (Or a b) = Unit {0}
IsOnOperands (Conditional of e a b) = Unit {0}
IsOnOperands (Cast to e) = Unit {0}
IsOnOperands (Comma a b) = Unit {0}
IsOnOperands (Putchar e) = Unit {0}
IsOnOperands (Exit e) = Unit {0}
IsOnOperands _ = ⊥

-- an expression is taken apart, or it is `getchar` and nothing is done
abbrev pub TakenApart : Bool → Expression → Configuration → Configuration → State → Type 0
TakenApart true e old new s = expression_done e old s ≡ Gives new s
TakenApart false e old new s = (e ≡ Getchar) × (new ≡ old)
