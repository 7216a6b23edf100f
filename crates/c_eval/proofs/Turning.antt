-- Turns.
use Rattle.std.proofs.Common.{◌≡◌, ◌≤◌, ◌-◌, ℕ, List, [], ◌∷◌, length, refl, sym, subst, ◌∙◌, Ok, Err}
use Rattle.std.specs.Prelude.{Result}
use Rattle.pcc_base.specs.Outcome.{nothing_listed}
use Rattle.c_tree.specs.Evaluation.{first_state}
use Rattle.c_tree.specs.Program.{NoMore, Program}
use Rattle.c_tree.specs.Store.{State, Gives}
use Rattle.c_eval_laws.specs.TasksLaws.{WentOn}
use Rattle.c_eval_laws.specs.Stacks.{StacksFit}
use Rattle.c_eval_laws.specs.Steps.{Configuration, Stepped}
use Rattle.c_eval_laws.specs.Tasks.{Task, Ahead, Passes, Way}
use Rattle.c_eval_laws.proofs.Corollaries.{steps_go_on}
use Rattle.c_eval_laws.proofs.Serving.{is_served}
use Rattle.c_eval_state.specs.Kept.{Kept, over}
use Rattle.c_eval_state.specs.Changes.{Comes, done, doing}
use Rattle.c_eval_state.specs.declared.end.EvalEnd.{EvalEnd}
use Rattle.c_eval.specs.Turns.{Begun, IsReady, IsTurn}
use Rattle.c_eval.specs.Performs.{Fits}
use Rattle.c_eval.specs.Standing.{BothTell, LeadsOn, Meets, Ran, SameCounts, Standing, Stops, Tells, before_task}
use Rattle.c_eval.specs.Whole.{EndsAt, Turned, Turns}
use Rattle.c_eval.specs.declared.next.Turn.{Turn}
use Rattle.c_eval.specs.declared.next.Turn.TheVariants.{Call, Loop}
use Rattle.c_eval.proofs.Going.{ahead_step, next_step, ran_on, ran_stops}
use Rattle.c_eval.proofs.Stepping.{moved, quiet_counts, same_counts, same_tells}
use Rattle.c_eval.proofs.Walking.{both_then, counts_then, ends_then, tells_then}

-- what is known of the way so far, in turns
pub record Runs (p : Program) (turns rest : ℕ) (old new : Standing) : Type 0 where
  pub tells : Tells old.streams new.streams
  pub counted : SameCounts old.streams new.streams
  pub fits : Fits new.config
  pub on : BothTell old.streams → LeadsOn p turns rest old new

-- ---- a turn

-- a turn finds what it takes
served : (task : Task) (count k : ℕ) (way : Way) (ts : List Task) (n m : ℕ) → task ≡ Passes k NoMore count
    → way ≡ Ahead → StacksFit way (task ∷ ts) n m → count ≤ n
served task count k way ts n m is ahead fits =
    let front : StacksFit Ahead (Passes k NoMore count ∷ ts) n m =
    subst (λ (w : Way). StacksFit w (Passes k NoMore count ∷ ts) n m) ahead
    (subst (λ (x : Task). StacksFit way (x ∷ ts) n m) is fits) in
    (is_served (Passes k NoMore count) ts n m front).0

pub turn_ready : (p : Program) (turn : Turn) (task : Task) (c : Configuration) → IsTurn p turn task → c.way ≡ Ahead
    → Fits (doing task c) → IsReady turn c
turn_ready p (Call f count) task c is ahead fits =
    served task count is.0 c.way c.tasks (length c.values) (length c.places) is.1 ahead fits
turn_ready p (Loop x) task c is ahead fits = is.1

-- a turn begins, where so many are left
pub turns_begun : (p : Program) (turn : Turn) (rest : ℕ) (old mid : Standing) (new : Configuration) (kept' : Kept)
    → (m : Meets p turn old mid) → Begun rest p m.task mid.config mid.kept new kept' (Ok tt)
    → Turns p rest old (moved mid new kept')
turns_begun p turn rest old mid new kept' m begun =
    let c : Configuration = mid.config in
    let d : Configuration = doing m.task c in
    let s : State = first_state p [] rest in
    let after : State → State = λ t. record t { turns = rest - 1 } in
    let step : next_step p d (over s mid.kept) ≡ Gives new (over (after s) kept') =
    ahead_step p m.task c (over s mid.kept) m.ahead ∙ begun.1 s refl in
    let went : WentOn p nothing_listed d.function d.way d.tasks d.values d.places (over s mid.kept) new
    (over (after s) kept') = steps_go_on p nothing_listed d.function d.way d.tasks d.values d.places
    (over s mid.kept) new (over (after s) kept') step in
    record {
      tells = m.tells;
      counted = m.counted;
      fits = went.fits m.fits;
      some = begun.0;
      on = λ both turns left taken r.
          let here : Ran p turns rest left taken (before_task m.task mid) = m.on both rest turns left taken r in
          let t : State = here.state in
          ran_on p turns rest (rest - 1) left taken (before_task m.task mid) (moved mid new kept') (after t) here
          (ahead_step p m.task c (over t mid.kept) m.ahead ∙ begun.1 t here.turns_left) refl here.left_is here.took
          here.wrote;
    }

-- the turn's first step ends the program
pub turns_end : (p : Program) (turn : Turn) (rest : ℕ) (old mid : Standing) (new : Configuration) (kept' : Kept)
    (end : EvalEnd) → (m : Meets p turn old mid) → Begun rest p m.task mid.config mid.kept new kept' (Err end)
    → EndsAt p rest end old (moved mid new kept')
turns_end p turn rest old mid new kept' end m begun =
    let c : Configuration = mid.config in
    let s : State = first_state p [] rest in
    record {
      tells = m.tells;
      counted = ends_then old.streams mid.streams mid.streams.faults mid.streams.counts end m.counted
          (quiet_counts (done p nothing_listed m.task c (over s mid.kept)) new (over s kept') end mid.streams.faults
          mid.streams.counts (begun s refl));
      ends = λ both turns left taken r.
          let here : Ran p turns rest left taken (before_task m.task mid) = m.on both rest turns left taken r in
          let t : State = here.state in
          ran_stops p turns rest left taken mid.streams.left mid.streams.taken (before_task m.task mid) new kept' end
          here (subst (λ (x : Stepped). Comes (Err end) x new (over t kept'))
          (sym (ahead_step p m.task c (over t mid.kept) m.ahead)) (begun t here.turns_left)) refl refl;
    }

pub stops_at : (p : Program) (rest : ℕ) (end : EvalEnd) (old new : Standing) → Stops p end old new
    → EndsAt p rest end old new
stops_at p rest end old new s = record { tells = s.tells; counted = s.counted; ends = λ both. s.ends both rest }

-- either way
pub turned : (p : Program) (turn : Turn) (rest : ℕ) (old mid : Standing) (new : Configuration) (kept' : Kept)
    (result : Result Unit EvalEnd) → Meets p turn old mid
    → ((q : Program) (task : Task) → IsTurn q turn task → Begun rest q task mid.config mid.kept new kept' result)
    → Turned p rest old (moved mid new kept') result
turned p turn rest old mid new kept' (Ok it) m begun =
    turns_begun p turn rest old mid new kept' m (begun p m.task m.is_turn)
turned p turn rest old mid new kept' (Err end) m begun =
    turns_end p turn rest old mid new kept' end m (begun p m.task m.is_turn)

-- ---- turns

pub runs_none : (p : Program) (turns : ℕ) (now : Standing) → Fits now.config → Runs p turns turns now now
runs_none p turns now fits = record {
  tells = same_tells now.streams;
  counted = same_counts now.streams;
  fits = fits;
  on = λ both turns left taken r. r;
}

pub runs_more : (p : Program) (turns rest rest' : ℕ) (a b d : Standing) → Runs p turns rest a b → Turns p rest b d
    → rest - 1 ≡ rest' → Runs p turns rest' a d
runs_more p turns rest rest' a b d w s e = record {
  tells = tells_then a.streams b.streams d.streams w.tells s.tells;
  counted = counts_then a.streams b.streams d.streams w.counted s.counted;
  fits = s.fits;
  on = λ both all left taken r. subst (λ (n : ℕ). Ran p all n left taken d) e
      (s.on (both_then a.streams b.streams w.tells both) all left taken (w.on both all left taken r));
}

pub runs_ends : (p : Program) (turns rest : ℕ) (end : EvalEnd) (a b d : Standing) → Runs p turns rest a b
    → EndsAt p rest end b d → EndsAt p turns end a d
runs_ends p turns rest end a b d w s = record {
  tells = tells_then a.streams b.streams d.streams w.tells s.tells;
  counted = ends_then a.streams b.streams d.streams.faults d.streams.counts end w.counted s.counted;
  ends = λ both all left taken r. s.ends (both_then a.streams b.streams w.tells both) all left taken
      (w.on both all left taken r);
}
