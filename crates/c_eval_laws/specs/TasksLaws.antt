-- The laws of the machine of tasks.
use Rattle.std.specs.Prelude.{◌≡◌, ◌<◌, ◌≤◌, suc, true, false, ◌-◌, ℕ, List, [], ◌∷◌, length, reverse, take, drop}
use Rattle.pcc_base.specs.Outcome.{End, Ended, Goes, Listing}
use Rattle.c_tree.specs.Evaluation.{Found, first_state, low_byte, outcome_at, source_outcome}
use Rattle.c_tree.specs.Program.{Arguments, Expression, Item, Place, Statement, Function, Program}
use Rattle.c_tree.specs.Store.{Held, State, Gives, Ends}
use Rattle.c_eval_laws.specs.Laws.{GoesOn}
use Rattle.c_eval_laws.specs.Tasks.{Task, Declares, Evaluates, Executes, Locates, Passes, Way, Ahead, below_by}
use Rattle.c_eval_laws.specs.Tasks.{put_before, rest, top}
use Rattle.c_eval_laws.specs.Steps.{Configuration, Stepped, rest_after, rest_of, steps, arguments_step}
use Rattle.c_eval_laws.specs.Steps.{expression_step, item_step, place_step}
use Rattle.c_eval_laws.specs.Steps.{first_tasks, statement_step, step, task_step}
use Rattle.c_eval_laws.specs.Weights.{MovesOn, takes_turn, weights}
use Rattle.c_eval_laws.specs.Stacks.{StacksFit, StacksFitAfter, places_taken, values_taken}

-- what a step of the machine in the body of a function comes to has the outcome that was left
abbrev pub Keeps : Program → Listing → Function → Way → List Task → List Held → List Found → State → Stepped → Type 0
Keeps p l f way ts vs fs s stepped = rest p l f way ts vs fs s ≡ rest_after p l stepped

-- An expression, and a place, are taken apart.
abbrev pub ExpressionsStep : Type 0
ExpressionsStep = (p : Program) (l : Listing) (f : Function) (e : Expression) (ts : List Task) (vs : List Held)
    (fs : List Found) (s : State) → Keeps p l f Ahead (Evaluates e ∷ ts) vs fs s (expression_step f e ts vs fs s)

abbrev pub PlacesStep : Type 0
PlacesStep = (p : Program) (l : Listing) (f : Function) (place : Place) (ts : List Task) (vs : List Held)
    (fs : List Found) (s : State) → Keeps p l f Ahead (Locates place ∷ ts) vs fs s (place_step f place ts vs fs s)

-- A declared item, and a statement, are taken apart.
abbrev pub ItemsStep : Type 0
ItemsStep = (p : Program) (l : Listing) (f : Function) (item : Item) (ts : List Task) (vs : List Held)
    (fs : List Found) (s : State) → Keeps p l f Ahead (Declares item ∷ ts) vs fs s (item_step l f item ts vs fs s)

abbrev pub StatementsStep : Type 0
StatementsStep = (p : Program) (l : Listing) (f : Function) (x : Statement) (ts : List Task) (vs : List Held)
    (fs : List Found) (s : State) → Keeps p l f Ahead (Executes x ∷ ts) vs fs s (statement_step l f x ts vs fs s)

-- The next argument of a call is evaluated, or the function is called.
abbrev pub CallsStep : Type 0
CallsStep = (p : Program) (l : Listing) (f : Function) (k : ℕ) (arguments : Arguments) (count : ℕ) (ts : List Task)
    (vs : List Held) (fs : List Found) (s : State)
    → Keeps p l f Ahead (Passes k arguments count ∷ ts) vs fs s (arguments_step p f k arguments count ts vs fs s)

-- Every task is done so.
abbrev pub TasksStep : Type 0
TasksStep = (p : Program) (l : Listing) (f : Function) (task : Task) (ts : List Task) (vs : List Held)
    (fs : List Found) (s : State) → Keeps p l f Ahead (task ∷ ts) vs fs s (task_step p l f task ts vs fs s)

-- So is every step of the machine, also one that passes over a task or ends the program.
abbrev pub StepsKeep : Type 0
StepsKeep = (p : Program) (l : Listing) (f : Function) (way : Way) (ts : List Task) (vs : List Held)
    (fs : List Found) (s : State) → Keeps p l f way ts vs fs s (step p l f way ts vs fs s)

-- Nor do several steps change it.
abbrev pub ManyStepsKeep : Type 0
ManyStepsKeep = (p : Program) (l : Listing) (count : ℕ) (c : Configuration) (s : State)
    → rest_of p l c s ≡ rest_after p l (steps count p l c s)

-- ---- the start and the end

-- What comes of the call of `main`, in the first state, is the program's outcome; no function calls `main`, and any may
-- stand for that one.
abbrev pub Starts : Type 0
Starts = (p : Program) (l : Listing) (input : List ℕ) (n : ℕ) (f : Function)
    → rest p l f Ahead (first_tasks p) [] [] (first_state p input n) ≡ source_outcome p l input n

-- Where no task is left, the program has ended with the last value.
abbrev pub IsEnd : Type 0
IsEnd = (p : Program) (l : Listing) (f : Function) (way : Way) (vs : List Held) (fs : List Found) (s : State)
    → rest p l f way [] vs fs s ≡ outcome_at (Ended (low_byte (top vs))) s

-- What was visited, written and taken up to a state stays in front of what comes of the rest.
abbrev pub RestGoesOn : Type 0
RestGoesOn = (p : Program) (l : Listing) (f : Function) (way : Way) (ts : List Task) (vs : List Held)
    (fs : List Found) (s : State) → GoesOn (outcome_at Goes s) (rest p l f way ts vs fs s)

-- ---- weights

-- A step that takes no turn lowers the weight of what is left, and any other leaves one turn less.
abbrev pub WeightsFall : Type 0
WeightsFall = (p : Program) (l : Listing) (f : Function) (way : Way) (ts : List Task) (vs : List Held)
    (fs : List Found) (s : State) → MovesOn (takes_turn p way ts) (weights ts) s (step p l f way ts vs fs s)

-- ---- stacks

-- The first tasks fit empty stacks, and after a step they fit again.
abbrev pub StartFits : Type 0
StartFits = (p : Program) → StacksFit Ahead (first_tasks p) 0 0

abbrev pub StacksStayFit : Type 0
StacksStayFit = (p : Program) (l : Listing) (f : Function) (way : Way) (ts : List Task) (vs : List Held)
    (fs : List Found) (s : State) → StacksFit way ts (length vs) (length fs)
    → StacksFitAfter (step p l f way ts vs fs s)

-- A task that fits finds what it takes.
abbrev pub IsServed : Type 0
IsServed = (task : Task) (ts : List Task) (n m : ℕ) → StacksFit Ahead (task ∷ ts) n m
    → (values_taken task ≤ n) × (places_taken task ≤ m)

-- The values of a vector, whose last is the first of the stack: the last so many are the arguments of a call, in order,
-- and those before them are what is below.
abbrev pub ArgumentsAreLast : Type 0
ArgumentsAreLast = (values : List Held) (count : ℕ) → count ≤ length values
    → (put_before count (reverse values) [] ≡ drop (length values - count) values)
    × (below_by count (reverse values) ≡ reverse (take (length values - count) values))

-- ---- what is known of a step, by what it comes to

-- A step that goes on keeps the outcome, and stacks that fit. It takes a turn, or the weight falls and it takes none.
pub record WentOn (p : Program) (l : Listing) (f : Function) (way : Way) (ts : List Task) (vs : List Held)
    (fs : List Found) (s : State) (c : Configuration) (t : State) : Type 0 where
  pub same : rest p l f way ts vs fs s ≡ rest_of p l c t
  pub fits : StacksFit way ts (length vs) (length fs) → StacksFit c.way c.tasks (length c.values) (length c.places)
  pub falls : takes_turn p way ts ≡ false → (t.turns ≡ s.turns) × (weights c.tasks < weights ts)
  pub turn : takes_turn p way ts ≡ true → suc t.turns ≡ s.turns

abbrev pub StepsGoOn : Type 0
StepsGoOn = (p : Program) (l : Listing) (f : Function) (way : Way) (ts : List Task) (vs : List Held)
    (fs : List Found) (s : State) (c : Configuration) (t : State) → step p l f way ts vs fs s ≡ Gives c t
    → WentOn p l f way ts vs fs s c t

-- A step that ends the program comes to its outcome.
abbrev pub StepsEnd : Type 0
StepsEnd = (p : Program) (l : Listing) (f : Function) (way : Way) (ts : List Task) (vs : List Held)
    (fs : List Found) (s : State) (end : End) (t : State) → step p l f way ts vs fs s ≡ Ends end t
    → rest p l f way ts vs fs s ≡ outcome_at end t
