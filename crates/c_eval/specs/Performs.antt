-- What the step of a task leaves, and what one that isn't done yet waits for.
use Rattle.std.specs.Prelude.{◌≡◌, Bool, true, false, List, length, Result, Ok, Err}
use Rattle.pcc_base.specs.Outcome.{Visit, nothing_listed}
use Rattle.c_tree.specs.Program.{Program, Getchar, Statement, While, Do, For}
use Rattle.c_tree.specs.Store.{State, Gives}
use Rattle.c_eval_laws.specs.Steps.{Configuration}
use Rattle.c_eval_laws.specs.Stacks.{StacksFit}
use Rattle.c_eval_laws.specs.Tasks.{Task, Evaluates, Puts}
use Rattle.c_eval_laws.specs.Weights.{is_turn}
use Rattle.c_eval_state.specs.Kept.{Kept, over}
use Rattle.c_eval_state.specs.Changes.{Comes, done}
use Rattle.c_eval_state.specs.declared.end.EvalEnd.{EvalEnd}
use Rattle.c_eval_state.specs.declared.task.Task as memory
use Rattle.c_eval_state.specs.declared.task.Task.TheVariants as tasks
use Rattle.c_eval.specs.Turns.{IsTurn}
use Rattle.c_eval.specs.declared.next.Next.{Next}
use Rattle.c_eval.specs.declared.next.Next.TheVariants.{Nothing, Byte, Room, Begins}

-- a statement that takes turns
abbrev pub is_loop : Statement → Bool
is_loop (While n e body) = true
is_loop (Do n body e) = true
is_loop (For n first test after body) = true
is_loop _ = false

-- each task finds what it takes
abbrev pub Fits : Configuration → Type 0
Fits c = StacksFit c.way c.tasks (length c.values) (length c.places)

-- tasks that wait for nothing, and visit nothing
abbrev pub IsPlain : memory.Task → Type 0
IsPlain (tasks.Evaluates e) = ⊥
IsPlain tasks.Puts = ⊥
IsPlain (tasks.Passes f arguments count) = ⊥
IsPlain (tasks.Goes part x) = ⊥
IsPlain (tasks.Declares item) = ⊥
IsPlain _ = Unit {0}

-- those of these that need the stacks alone, and after which the program goes on
abbrev pub IsOnStacks : memory.Task → Type 0
IsOnStacks (tasks.AppliesBinary operator) = ⊥
IsOnStacks tasks.Exits = ⊥
IsOnStacks tasks.Loads = ⊥
IsOnStacks tasks.LoadsOld = ⊥
IsOnStacks (tasks.Stores of) = ⊥
IsOnStacks (tasks.Updates of operator) = ⊥
IsOnStacks (tasks.Steps of op) = ⊥
IsOnStacks (tasks.Initialises local of) = ⊥
IsOnStacks (tasks.FillsElement array element es place) = ⊥
IsOnStacks (tasks.ReturnsTo caller) = ⊥
IsOnStacks task = IsPlain task

-- the state with these visits
abbrev pub with_visits : List Visit → State → State
with_visits visits s = record s { visits = visits }

-- a task is done that takes no turn, and nothing but visits comes in
pub record Done (p : Program) (task : Task) (old : Configuration) (kept : Kept) (new : Configuration)
    (kept' : Kept) : Type 0 where
  pub no_turn : is_turn p task ≡ false
  pub visits : State → List Visit
  pub gives : (s : State)
      → done p nothing_listed task old (over s kept) ≡ Gives new (over (with_visits (visits s) s) kept')

-- A task is done, or it ends the program, or it waits and nothing is done.
abbrev pub Performed : Program → Task → Configuration → Kept → Configuration → Kept → Result Next EvalEnd → Type 0
Performed p task old kept new kept' (Ok Nothing) = Done p task old kept new kept'
Performed p task old kept new kept' (Ok Byte) = (task ≡ Evaluates Getchar) × (new ≡ old) × (kept' ≡ kept)
Performed p task old kept new kept' (Ok Room) = (task ≡ Puts) × (new ≡ old) × (kept' ≡ kept)
Performed p task old kept new kept' (Ok (Begins turn)) = IsTurn p turn task × (new ≡ old) × (kept' ≡ kept)
Performed p task old kept new kept' (Err end) =
    (s : State) → Comes (Err end) (done p nothing_listed task old (over s kept)) new (over s kept')
