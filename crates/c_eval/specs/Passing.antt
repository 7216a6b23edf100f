-- Tasks that are passed over by `break`, `continue` and `return`.
use Rattle.std.specs.Prelude.{List, ◌∷◌, pos}
use Rattle.c_tree.specs.Store.{Held, HoldsNumber, State}
use Rattle.c_eval_laws.specs.Steps.{Configuration, Stepped, passing_step}
use Rattle.c_eval_laws.specs.Tasks.{Task, LoopBody, DoBody, SwitchBody, ReturnsTo, Way, Returning}
use Rattle.c_eval_state.specs.declared.task.StatementPart.TheVariants as parts
use Rattle.c_eval_state.specs.declared.task.Task as memory
use Rattle.c_eval_state.specs.declared.task.Task.TheVariants as tasks

-- neither behind a body, nor the return to the function that called
abbrev pub IsPlain : Task → Type 0
IsPlain (LoopBody test after body) = ⊥
IsPlain (DoBody body test) = ⊥
IsPlain SwitchBody = ⊥
IsPlain (ReturnsTo caller) = ⊥
IsPlain _ = Unit {0}

-- the same of a task in memory
abbrev pub IsOther : memory.Task → Type 0
IsOther (tasks.Goes parts.Body x) = ⊥
IsOther (tasks.ReturnsTo caller) = ⊥
IsOther _ = Unit {0}

-- a task is passed over
abbrev pub passed : Task → Configuration → State → Stepped
passed task c s = passing_step c.way c.function task c.tasks c.values c.places s

-- what a function gives is on the stack: what it returned, or 0
abbrev pub values_returned : Way → List Held → List Held
values_returned Returning vs = vs
values_returned _ vs = HoldsNumber (pos 0) ∷ vs

abbrev pub giving_returned : Configuration → Configuration
giving_returned c = record c { values = values_returned c.way c.values }
