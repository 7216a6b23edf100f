-- One step of an evaluation, from the task that was taken, by what did it.
use Rattle.std.proofs.Common.{◌≡◌, sym, ap, subst, ◌∙◌, Ok, Err}
use Rattle.c_tree.specs.Program.{Getchar, Program}
use Rattle.c_tree.specs.Store.{Held}
use Rattle.c_eval_laws.specs.Steps.{Configuration}
use Rattle.c_eval_laws.specs.Tasks.{Task, Ahead, Evaluates, Puts}
use Rattle.c_eval_state.specs.Kept.{Kept}
use Rattle.c_eval_state.specs.Changes.{doing, holding, without_value}
use Rattle.c_eval_state.specs.Streaming.{GetTold, InputCounts, OutCounts, PutTold}
use Rattle.c_eval_state.specs.declared.end.EvalEnd.{EvalEnd}
use Rattle.c_eval_state.specs.declared.end.EvalEnd.TheVariants.{NoMemory}
use Rattle.c_eval.specs.Turns.{IsTurn}
use Rattle.c_eval.specs.Performs.{Fits}
use Rattle.c_eval.specs.Standing.{Meets, SameCounts, Standing, Steps, Stops, Streams, Tells}
use Rattle.c_eval.specs.Standing.{before_task}
use Rattle.c_eval.specs.declared.next.Turn.{Turn}
use Rattle.c_eval.proofs.Stepping.{meets_turn, stops_quiet}
use Rattle.c_eval.proofs.Streaming.{steps_get, steps_put, stops_get, stops_put}

-- where this is left to do and held, with these streams
abbrev pub at : Configuration → Kept → Streams → Standing
at c kept streams = record { config = c; kept = kept; streams = streams }

-- the task was `getchar`, and nothing was done before the input was asked
pub byte_steps : (p : Program) (task : Task) (c mid new : Configuration) (kept kept' : Kept) (old now : Streams)
    → task ≡ Evaluates Getchar → mid ≡ c → kept' ≡ kept → c.way ≡ Ahead → Fits (doing task c) → Tells old now
    → SameCounts old now → now.taken ≡ old.taken → (value : Held) × (new ≡ holding value mid)
    → (old.input_tells → GetTold mid new old.left now.left (Ok tt))
    → Steps p (before_task task (at c kept old)) (at new kept' now)
byte_steps p task c mid new kept kept' old now is same held ahead fits tells counted taken value told =
    subst (λ (x : Task). Steps p (before_task x (at c kept old)) (at new kept' now)) (sym is)
    (steps_get p (at c kept old) (at new kept' now) value.0 ahead
    (subst (λ (x : Task). Fits (doing x c)) is fits) tells counted held taken
    (value.1 ∙ ap (λ (d : Configuration). holding value.0 d) same)
    (λ both. subst (λ (d : Configuration). GetTold d new old.left now.left (Ok tt)) same (told both.0)))

pub byte_stops : (p : Program) (task : Task) (c mid new : Configuration) (kept kept' : Kept) (old now : Streams)
    (end : EvalEnd) → task ≡ Evaluates Getchar → mid ≡ c → Tells old now → now.counts ≡ old.counts
    → InputCounts old.faults now.faults (Err end) → now.taken ≡ old.taken
    → (old.input_tells → GetTold mid new old.left now.left (Err end))
    → Stops p end (before_task task (at c kept old)) (at new kept' now)
byte_stops p task c mid new kept kept' old now end is same tells counts faults taken told =
    subst (λ (x : Task). Stops p end (before_task x (at c kept old)) (at new kept' now)) (sym is)
    (stops_get p (at c kept old) (at new kept' now) end tells counts faults taken
    (λ both. subst (λ (d : Configuration). GetTold d new old.left now.left (Err end)) same (told both.0)))

-- it was `putchar`
pub room_steps : (p : Program) (task : Task) (c mid new : Configuration) (kept kept' : Kept) (old now : Streams)
    → task ≡ Puts → mid ≡ c → kept' ≡ kept → c.way ≡ Ahead → Fits (doing task c) → Tells old now
    → SameCounts old now → now.left ≡ old.left → (value : Held) × (new ≡ holding value (without_value mid))
    → (old.out_tells → PutTold mid new old.taken now.taken (Ok tt))
    → Steps p (before_task task (at c kept old)) (at new kept' now)
room_steps p task c mid new kept kept' old now is same held ahead fits tells counted left value told =
    subst (λ (x : Task). Steps p (before_task x (at c kept old)) (at new kept' now)) (sym is)
    (steps_put p (at c kept old) (at new kept' now) value.0 ahead
    (subst (λ (x : Task). Fits (doing x c)) is fits) tells counted held left
    (value.1 ∙ ap (λ (d : Configuration). holding value.0 (without_value d)) same)
    (λ both. subst (λ (d : Configuration). PutTold d new old.taken now.taken (Ok tt)) same (told both.1)))

pub room_stops : (p : Program) (task : Task) (c mid new : Configuration) (kept kept' : Kept) (old now : Streams)
    (end : EvalEnd) → task ≡ Puts → mid ≡ c → c.way ≡ Ahead → Tells old now → now.faults ≡ old.faults
    → OutCounts old.counts now.counts (Err end) → now.left ≡ old.left
    → (old.out_tells → PutTold mid new old.taken now.taken (Err end))
    → Stops p end (before_task task (at c kept old)) (at new kept' now)
room_stops p task c mid new kept kept' old now end is same ahead tells faults counts left told =
    subst (λ (x : Task). Stops p end (before_task x (at c kept old)) (at new kept' now)) (sym is)
    (stops_put p (at c kept old) (at new kept' now) end ahead tells faults counts left
    (λ both. subst (λ (d : Configuration). PutTold d new old.taken now.taken (Err end)) same (told both.1)))

-- it takes a turn
pub turn_met : (p : Program) (turn : Turn) (task : Task) (c new : Configuration) (kept kept' : Kept)
    (streams : Streams) → c.way ≡ Ahead → Fits (doing task c) → IsTurn p turn task → new ≡ c → kept' ≡ kept
    → Meets p turn (before_task task (at c kept streams)) (at new kept' streams)
turn_met p turn task c new kept kept' streams ahead fits is same held =
    subst (λ (k : Kept). Meets p turn (before_task task (at c kept streams)) (at new k streams)) (sym held)
    (subst (λ (d : Configuration). Meets p turn (before_task task (at c kept streams)) (at d kept streams)) (sym same)
    (meets_turn p turn task (at c kept streams) ahead fits is))

-- no memory is found for it
pub wants_memory : (p : Program) (c new : Configuration) (kept kept' : Kept) (streams : Streams)
    → Stops p NoMemory (at c kept streams) (at new kept' streams)
wants_memory p c new kept kept' streams = stops_quiet p (at c kept streams) new kept' NoMemory (λ s. tt)
