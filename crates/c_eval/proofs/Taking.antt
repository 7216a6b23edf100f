-- One step of an evaluation, from before its task was taken.
use Rattle.std.proofs.Common.{◌≡◌, ◌≢◌, ℕ, List, [], refl, sym, subst}
use Rattle.std.specs.Prelude.{Option, Result}
use Rattle.pcc_base.specs.Outcome as outcome
use Rattle.c_tree.specs.Evaluation.{low_byte}
use Rattle.c_tree.specs.Program.{Program}
use Rattle.c_tree.specs.Store.{State, Gives, Ends}
use Rattle.c_eval_laws.specs.Steps.{Configuration}
use Rattle.c_eval_laws.specs.Tasks.{Task, Ahead, top}
use Rattle.c_eval_state.specs.Kept.{Kept, over}
use Rattle.c_eval_state.specs.Changes.{doing}
use Rattle.c_eval_state.specs.declared.end.EvalEnd.{EvalEnd}
use Rattle.c_eval_state.specs.declared.end.EvalEnd.TheVariants.{Ended}
use Rattle.c_eval.specs.Passing.{passed}
use Rattle.c_eval.specs.Performs.{Fits}
use Rattle.c_eval.specs.Standing.{Advanced, Standing, Steps, Stops, Streams, before_task}
use Rattle.c_eval.specs.declared.next.Turn.{Turn}
use Rattle.c_eval.proofs.Advancing.{at}
use Rattle.c_eval.proofs.Going.{next_step}
use Rattle.c_eval.proofs.Stepping.{steps_passed, stops_quiet}

-- a task is passed over
pub task_passed : (p : Program) (task : Task) (c mid new : Configuration) (kept kept' : Kept) (streams : Streams)
    → c ≡ doing task mid → mid.way ≢ Ahead → Fits c
    → ((s : State) → passed task mid (over s kept) ≡ Gives new (over s kept'))
    → Steps p (at c kept streams) (at new kept' streams)
task_passed p task c mid new kept kept' streams is other fits e =
    subst (λ (d : Configuration). Steps p (at d kept streams) (at new kept' streams)) (sym is)
    (steps_passed p task (at mid kept streams) new kept' other
    (subst (λ (d : Configuration). Fits d) is fits) e)

-- no task is left
last_step : (p : Program) (c : Configuration) (s : State) (ts : List Task) → ts ≡ []
    → next_step p (record c { tasks = ts }) s ≡ Ends (outcome.Ended (low_byte (top c.values))) s
last_step p c s ts none = rw none refl

pub none_left : (p : Program) (c new : Configuration) (kept : Kept) (streams : Streams) (status : ℕ)
    → c.tasks ≡ [] → status ≡ low_byte (top c.values)
    → Stops p (Ended status) (at c kept streams) (at new kept streams)
none_left p c new kept streams status none is =
    subst (λ (n : ℕ). Stops p (Ended n) (at c kept streams) (at new kept streams)) (sym is)
    (stops_quiet p (at c kept streams) new kept (Ended (low_byte (top c.values)))
    (λ s. last_step p c (over s kept) c.tasks none))

-- a step of a task that was taken is one from before
pub was_taken : (p : Program) (task : Task) (c mid : Configuration) (kept : Kept) (streams : Streams) (new : Standing)
    (result : Result (Option Turn) EvalEnd) → c ≡ doing task mid
    → Advanced p (before_task task (at mid kept streams)) new result
    → Advanced p (at c kept streams) new result
was_taken p task c mid kept streams new result is advanced =
    subst (λ (d : Configuration). Advanced p (at d kept streams) new result) (sym is) advanced
