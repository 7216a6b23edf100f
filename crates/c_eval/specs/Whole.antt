-- How an evaluation goes on: up to a turn, over turns, and from its start to its end.
use Rattle.std.specs.Prelude.{◌≡◌, ◌<◌, ◌-◌, ℕ, [], slice_get, Option, Some, None, Result, Ok, Err}
use Rattle.c_tree.specs.Program.{Function, Program}
use Rattle.c_eval_laws.specs.Steps.{Configuration, first_tasks, go_on}
use Rattle.c_eval_state.specs.declared.end.EvalEnd.{EvalEnd}
use Rattle.c_eval.specs.Runs.{EvalCounts}
use Rattle.c_eval.specs.Performs.{Fits}
use Rattle.c_eval.specs.Standing.{BothTell, LeadsOn, LeadsToEnd, Meets, SameCounts, Standing, Stops, Tells}
use Rattle.c_eval.specs.declared.next.Turn.{Turn}

-- steps up to the next turn
abbrev pub UpToTurn : Program → Standing → Standing → Result Turn EvalEnd → Type 0
UpToTurn p old new (Ok turn) = Meets p turn old new
UpToTurn p old new (Err end) = Stops p end old new

-- a turn from so many that are left
pub record Turns (p : Program) (rest : ℕ) (old new : Standing) : Type 0 where
  pub tells : Tells old.streams new.streams
  pub counted : SameCounts old.streams new.streams
  pub fits : Fits new.config
  pub some : 0 < rest
  pub on : BothTell old.streams → LeadsOn p rest (rest - 1) old new

-- an end with so many left
pub record EndsAt (p : Program) (rest : ℕ) (end : EvalEnd) (old new : Standing) : Type 0 where
  pub tells : Tells old.streams new.streams
  pub counted : EvalCounts old.streams.faults new.streams.faults old.streams.counts new.streams.counts end
  pub ends : BothTell old.streams → LeadsToEnd p rest old new end

abbrev pub Turned : Program → ℕ → Standing → Standing → Result Unit EvalEnd → Type 0
Turned p rest old new (Ok it) = Turns p rest old new
Turned p rest old new (Err end) = EndsAt p rest end old new

-- what an evaluation begins with: the call of `main`, where there is such a function
abbrev pub Started : Program → Option Configuration → Type 0
Started p (Some c) = (f : Function) × (c ≡ go_on f (first_tasks p) [] [])
Started p None = slice_get p.functions p.main ≡ None
