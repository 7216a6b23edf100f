-- What is done of an expression without a task for each of its parts.
use Rattle.std.specs.Prelude.{◌≡◌, ◌<◌, ◌⊎◌, ℕ, ℤ, List, ◌∷◌, Option, Some, None}
use Rattle.pcc_base.specs.Outcome.{nothing_listed}
use Rattle.c_tree.specs.Evaluation.{Found}
use Rattle.c_tree.specs.Operators.{Computes, numbers_value}
use Rattle.c_tree.specs.Program.{Expression, Function, Program}
use Rattle.c_tree.specs.Store.{Held, HoldsNumber, State, held}
use Rattle.c_tree.specs.declared.expression.BinaryOp.{BinaryOp}
use Rattle.c_tree.specs.declared.types.IntegerType.{IntegerType}
use Rattle.c_eval_laws.specs.Steps.{Configuration, go_on, rest_of}
use Rattle.c_eval_laws.specs.Tasks.{Task, Ahead, Evaluates}
use Rattle.c_eval_laws.specs.Weights.{weights}
use Rattle.c_eval_state.specs.Kept.{Kept, over}
use Rattle.c_eval_state.specs.Changes.{doing}
use Rattle.c_eval_state.specs.Views.{task_of}
use Rattle.c_eval_state.specs.declared.task.Task as memory
use Rattle.c_eval.specs.Performs.{Fits}

-- steps lead from one configuration to another that take no turn, move no byte and change nothing that is held
pub record Reaches (p : Program) (kept : Kept) (old new : Configuration) : Type 0 where
  pub same : (s : State) → rest_of p nothing_listed old (over s kept) ≡ rest_of p nothing_listed new (over s kept)
  pub fits : Fits old → Fits new
  pub falls : weights new.tasks < weights old.tasks

-- a local holds this number, or nothing is said
abbrev pub IsLocalNumber : ℕ → Kept → Option ℤ → Type 0
IsLocalNumber local kept None = Unit {0}
IsLocalNumber local kept (Some n) = (s : State) → held (over s kept) local ≡ HoldsNumber n

-- an operator gives this number of two in the type that it works in, or nothing is said
abbrev pub IsApplied : IntegerType → BinaryOp → ℤ → ℤ → Option ℤ → Type 0
IsApplied within op a b None = Unit {0}
IsApplied within op a b (Some n) = numbers_value within op a b ≡ Computes (HoldsNumber n)

-- an expression comes to this number, whatever is left to do behind it, or nothing is said
abbrev pub IsNumber : Expression → Kept → Option ℤ → Type 0
IsNumber e kept None = Unit {0}
IsNumber e kept (Some n) = (p : Program) (f : Function) (ts : List Task) (vs : List Held) (fs : List Found)
    → Reaches p kept (go_on f (Evaluates e ∷ ts) vs fs) (go_on f ts (HoldsNumber n ∷ vs) fs)

-- An expression is done, or this task is left to do of it, which is the whole where nothing is done.
abbrev pub Shortened : Expression → Kept → Configuration → Configuration → Option memory.Task → Type 0
Shortened e kept old new None = (p : Program) → Reaches p kept (doing (Evaluates e) old) new
Shortened e kept old new (Some task) = (new.way ≡ Ahead) × ((p : Program)
    → (doing (task_of task) new ≡ doing (Evaluates e) old)
    ⊎ Reaches p kept (doing (Evaluates e) old) (doing (task_of task) new))
