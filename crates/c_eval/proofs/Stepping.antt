-- One step, by how it goes on or ends.
use Rattle.std.proofs.Common.{◌≡◌, ◌≢◌, ℕ, false, [], ◌∷◌, refl, sym, ap, subst, ◌∙◌, Err}
use Rattle.pcc_base.specs.Outcome.{nothing_listed}
use Rattle.c_tree.specs.Evaluation.{first_state}
use Rattle.c_tree.specs.Program.{Program}
use Rattle.c_tree.specs.Store.{State, Gives}
use Rattle.c_eval_laws.specs.TasksLaws.{WentOn}
use Rattle.c_eval_laws.specs.Steps.{Configuration, Stepped}
use Rattle.pcc_outside.specs.Streams.{SinkCounts}
use Rattle.c_eval_laws.specs.Tasks.{Task, Ahead}
use Rattle.c_eval_laws.specs.Weights.{takes_turn}
use Rattle.c_eval_laws.proofs.Corollaries.{steps_go_on}
use Rattle.c_eval_state.specs.Kept.{Kept, over}
use Rattle.c_eval_state.specs.Changes.{Comes, done, doing}
use Rattle.c_eval.specs.Passing.{passed}
use Rattle.c_eval_state.specs.declared.end.EvalEnd.{EvalEnd}
use Rattle.c_eval_state.specs.declared.end.EvalEnd.TheVariants.{Ended, Trapped, TurnsSpent, ReadFault, WriteFault, NoMemory}
use Rattle.c_eval.specs.Turns.{IsTurn}
use Rattle.c_eval.specs.Performs.{Done, Fits, with_visits}
use Rattle.c_eval.specs.declared.next.Turn.{Turn}
use Rattle.c_eval.specs.Runs.{EvalCounts}
use Rattle.c_eval.specs.Standing.{Meets, SameCounts, Standing, Steps, Stops, Streams, Tells, before_task}
use Rattle.c_eval.proofs.Going.{ahead_step, ahead_turn, next_step, passed_step, passed_turn, ran_on, ran_stops}

-- the standing where this is left to do and held, with the same streams
abbrev pub moved : Standing → Configuration → Kept → Standing
moved now c kept = record now { config = c; kept = kept }

pub same_tells : (streams : Streams) → Tells streams streams
same_tells streams = record { input = λ h. h; out = λ h. h }

pub same_counts : (streams : Streams) → SameCounts streams streams
same_counts streams = record { faults = refl; counts = refl }

-- a state, whichever
abbrev any_state : Program → State
any_state p = first_state p [] 0

-- any step without a turn that moves no byte
pub steps_quiet : (p : Program) (now : Standing) (new : Configuration) (kept' : Kept) (after : State → State)
    → ((s : State) → next_step p now.config (over s now.kept) ≡ Gives new (over (after s) kept'))
    → ((s : State) → with_visits (after s).visits s ≡ after s)
    → takes_turn p now.config.way now.config.tasks ≡ false → Fits now.config
    → Steps p now (moved now new kept')
steps_quiet p now new kept' after e quiet still fits =
    let c : Configuration = now.config in
    let s : State = any_state p in
    let went : WentOn p nothing_listed c.function c.way c.tasks c.values c.places (over s now.kept) new
    (over (after s) kept') = steps_go_on p nothing_listed c.function c.way c.tasks c.values c.places
    (over s now.kept) new (over (after s) kept') (e s) in
    record {
      tells = same_tells now.streams;
      counted = same_counts now.streams;
      fits = went.fits fits;
      falls = (went.falls still).1;
      on = λ tells rest turns left taken r.
          let t : State = r.state in
          let goes : next_step p c (over t now.kept) ≡ Gives new (over (with_visits (after t).visits t) kept') =
          e t ∙ ap (λ (u : State). Gives new (over u kept')) (sym (quiet t)) in
          ran_on p turns rest rest left taken now (moved now new kept') (with_visits (after t).visits t) r goes
          r.turns_left r.left_is r.took r.wrote;
    }

-- a task that is done
pub steps_done : (p : Program) (task : Task) (now : Standing) (new : Configuration) (kept' : Kept)
    → now.config.way ≡ Ahead → Fits (doing task now.config) → Done p task now.config now.kept new kept'
    → Steps p (before_task task now) (moved now new kept')
steps_done p task now new kept' ahead fits d =
    steps_quiet p (before_task task now) new kept' (λ (s : State). with_visits (d.visits s) s)
    (λ s. ahead_step p task now.config (over s now.kept) ahead ∙ d.gives s) (λ s. refl)
    (ahead_turn p task now.config ahead ∙ d.no_turn) fits

-- a task that is passed over
pub steps_passed : (p : Program) (task : Task) (now : Standing) (new : Configuration) (kept' : Kept)
    → now.config.way ≢ Ahead → Fits (doing task now.config)
    → ((s : State) → passed task now.config (over s now.kept) ≡ Gives new (over s kept'))
    → Steps p (before_task task now) (moved now new kept')
steps_passed p task now new kept' other fits e =
    steps_quiet p (before_task task now) new kept' (λ (s : State). s)
    (λ s. passed_step p task now.config (over s now.kept) other ∙ e s) (λ s. refl)
    (passed_turn p now.config.way (task ∷ now.config.tasks) other) fits

-- an end that is no fault of a stream leaves its counts
pub quiet_counts : (stepped : Stepped) (c : Configuration) (s : State) (end : EvalEnd) (faults : ℕ)
    (counts : SinkCounts) → Comes (Err end) stepped c s → EvalCounts faults faults counts counts end
quiet_counts stepped c s (Ended status) faults counts h = (refl, refl)
quiet_counts stepped c s (Trapped trap) faults counts h = (refl, refl)
quiet_counts stepped c s TurnsSpent faults counts h = (refl, refl)
quiet_counts stepped c s ReadFault faults counts h = absurd h
quiet_counts stepped c s WriteFault faults counts h = absurd h
quiet_counts stepped c s NoMemory faults counts h = (refl, refl)

-- a step that ends the program, or finds no memory
pub stops_quiet : (p : Program) (now : Standing) (c' : Configuration) (kept' : Kept) (end : EvalEnd)
    → ((s : State) → Comes (Err end) (next_step p now.config (over s now.kept)) c' (over s kept'))
    → Stops p end now (moved now c' kept')
stops_quiet p now c' kept' end h = record {
  tells = same_tells now.streams;
  counted = quiet_counts (next_step p now.config (over (any_state p) now.kept)) c' (over (any_state p) kept') end
      now.streams.faults now.streams.counts (h (any_state p));
  ends = λ tells rest turns left taken r. ran_stops p turns rest left taken now.streams.left now.streams.taken now c'
      kept' end r (h r.state) refl refl;
}

-- the same of a task ahead, and of one that is passed over
pub stops_done : (p : Program) (task : Task) (now : Standing) (c' : Configuration) (kept' : Kept) (end : EvalEnd)
    → now.config.way ≡ Ahead
    → ((s : State) → Comes (Err end) (done p nothing_listed task now.config (over s now.kept)) c' (over s kept'))
    → Stops p end (before_task task now) (moved now c' kept')
stops_done p task now c' kept' end ahead h = stops_quiet p (before_task task now) c' kept' end
    (λ s. subst (λ (x : Stepped). Comes (Err end) x c' (over s kept'))
    (sym (ahead_step p task now.config (over s now.kept) ahead)) (h s))

-- a task that takes a turn
pub meets_turn : (p : Program) (turn : Turn) (task : Task) (now : Standing) → now.config.way ≡ Ahead
    → Fits (doing task now.config) → IsTurn p turn task → Meets p turn (before_task task now) now
meets_turn p turn task now ahead fits is = record {
  tells = same_tells now.streams;
  counted = same_counts now.streams;
  task = task;
  is_turn = is;
  ahead = ahead;
  fits = fits;
  on = λ both rest turns left taken r. r;
}
