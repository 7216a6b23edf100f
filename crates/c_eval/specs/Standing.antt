-- How far an evaluation is, and what is known of the way there.
use Rattle.std.specs.Prelude.{◌≡◌, ◌<◌, ℕ, List, ◌++◌, drop, Option, Some, None, Result, Ok, Err}
use Rattle.pcc_base.specs.Outcome.{nothing_listed}
use Rattle.pcc_outside.specs.Streams.{SinkCounts}
use Rattle.pcc_outside.specs.declared.sink.Sink as sink
use Rattle.pcc_outside.specs.declared.source.Source as source
use Rattle.c_tree.specs.Program.{Program}
use Rattle.c_tree.specs.Store.{State}
use Rattle.c_eval_laws.specs.Steps.{Configuration, rest_of}
use Rattle.c_eval_laws.specs.Tasks.{Task, Ahead}
use Rattle.c_eval_laws.specs.Weights.{weights}
use Rattle.c_eval_state.specs.Kept.{Kept, over}
use Rattle.c_eval_state.specs.Changes.{doing}
use Rattle.c_eval_state.specs.declared.end.EvalEnd.{EvalEnd}
use Rattle.c_eval.specs.Runs.{EvalCounts, EvalTold, outcome_in}
use Rattle.c_eval.specs.Turns.{IsTurn}
use Rattle.c_eval.specs.Performs.{Fits}
use Rattle.c_eval.specs.declared.next.Turn.{Turn}

-- the streams that are lent: how often they refused, that they tell, and what is left and was taken
pub record Streams : Type 1 where
  pub faults : ℕ
  pub counts : SinkCounts
  pub input_tells : Type 0
  pub out_tells : Type 0
  pub left : List ℕ
  pub taken : List ℕ

abbrev pub streams_of : {I O : Type 0} → source.Ghosts I → sink.Ghosts O → I → O → Streams
streams_of source sink input out = record {
  faults = source.faults input;
  counts = sink.counts out;
  input_tells = source.tells input;
  out_tells = sink.tells out;
  left = source.left input;
  taken = sink.taken out;
}

-- what is left to do, what the program holds, and the streams
pub record Standing : Type 1 where
  pub config : Configuration
  pub kept : Kept
  pub streams : Streams

abbrev pub standing : {I O : Type 0} → source.Ghosts I → sink.Ghosts O → Configuration → Kept → I → O → Standing
standing source sink c kept input out =
    record { config = c; kept = kept; streams = streams_of source sink input out }

-- where a task is to be done before all others
abbrev pub before_task : Task → Standing → Standing
before_task task now = record now { config = doing task now.config }

-- A run so far, of so many turns over an input, with so many left: what is left comes to the program's outcome, and the
-- input left and the bytes taken are as the state says.
pub record Ran (p : Program) (turns rest : ℕ) (left taken : List ℕ) (now : Standing) : Type 0 where
  pub state : State
  pub same : rest_of p nothing_listed now.config (over state now.kept) ≡ outcome_in p turns left
  pub turns_left : state.turns ≡ rest
  pub left_is : now.streams.left ≡ state.left
  pub took : state.left ≡ drop state.taken left
  pub wrote : now.streams.taken ≡ taken ++ state.written

-- what a call leaves of the streams' telling, where it doesn't refuse of their counts, and whether both tell
pub record Tells (old new : Streams) : Type 0 where
  pub input : old.input_tells → new.input_tells
  pub out : old.out_tells → new.out_tells

pub record SameCounts (old new : Streams) : Type 0 where
  pub faults : new.faults ≡ old.faults
  pub counts : new.counts ≡ old.counts

abbrev pub BothTell : Streams → Type 0
BothTell streams = streams.input_tells × streams.out_tells

-- every run with so many turns left that stands here goes on to there, or ends so
abbrev pub LeadsOn : Program → ℕ → ℕ → Standing → Standing → Type 0
LeadsOn p rest rest' old new = (turns : ℕ) (left taken : List ℕ) → Ran p turns rest left taken old
    → Ran p turns rest' left taken new

abbrev pub LeadsToEnd : Program → ℕ → Standing → Standing → EvalEnd → Type 0
LeadsToEnd p rest old new end = (turns : ℕ) (left taken : List ℕ) → Ran p turns rest left taken old
    → EvalTold p turns left new.streams.left taken new.streams.taken end

-- one step without a turn, which lowers the weight of what is left
pub record Steps (p : Program) (old new : Standing) : Type 0 where
  pub tells : Tells old.streams new.streams
  pub counted : SameCounts old.streams new.streams
  pub fits : Fits new.config
  pub falls : weights new.config.tasks < weights old.config.tasks
  pub on : BothTell old.streams → (rest : ℕ) → LeadsOn p rest rest old new

-- steps without a turn up to a task that takes one
pub record Meets (p : Program) (turn : Turn) (old new : Standing) : Type 0 where
  pub tells : Tells old.streams new.streams
  pub counted : SameCounts old.streams new.streams
  pub task : Task
  pub is_turn : IsTurn p turn task
  pub ahead : new.config.way ≡ Ahead
  pub fits : Fits (doing task new.config)
  pub on : BothTell old.streams → (rest : ℕ) → LeadsOn p rest rest old (before_task task new)

-- steps up to an end, whatever turns are left
pub record Stops (p : Program) (end : EvalEnd) (old new : Standing) : Type 0 where
  pub tells : Tells old.streams new.streams
  pub counted : EvalCounts old.streams.faults new.streams.faults old.streams.counts new.streams.counts end
  pub ends : BothTell old.streams → (rest : ℕ) → LeadsToEnd p rest old new end

-- a step
abbrev pub Advanced : Program → Standing → Standing → Result (Option Turn) EvalEnd → Type 0
Advanced p old new (Ok None) = Steps p old new
Advanced p old new (Ok (Some turn)) = Meets p turn old new
Advanced p old new (Err end) = Stops p end old new
