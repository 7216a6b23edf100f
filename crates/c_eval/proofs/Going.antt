-- A run so far: what a step makes of it, and what is known of the bytes where it ends.
use Rattle.std.proofs.Common.{◌≡◌, ◌≢◌, ℕ, false, List, ◌∷◌, ◌++◌, length, take, drop, refl, sym}
use Rattle.std.proofs.Common.{ap, subst, ◌∙◌, Err}
use Rattle.std.proofs.Math.Seq.{take-append_seam}
use Rattle.pcc_base.specs.Outcome.{End, Goes, Outcome, nothing_listed}
use Rattle.pcc_base.specs.Outcome as outcome
use Rattle.c_tree.specs.Evaluation.{outcome_at}
use Rattle.c_tree.specs.Program.{Program}
use Rattle.c_tree.specs.Store.{State, Gives as GivesNext, Ends}
use Rattle.c_eval_laws.specs.Laws.{GoesOn}
use Rattle.c_eval_laws.specs.Steps.{Configuration, Stepped, passing_step, step}
use Rattle.c_eval_laws.specs.Tasks.{Task, Ahead, Breaking, Continuing, Returning, Way}
use Rattle.c_eval_laws.specs.Weights.{is_turn, takes_turn}
use Rattle.c_eval_laws.proofs.Corollaries.{steps_end, steps_go_on}
use Rattle.c_eval_laws.proofs.Going.{rest_goes_on}
use Rattle.c_eval_state.specs.Kept.{Kept, over}
use Rattle.c_eval_state.specs.Changes.{Comes, done, doing}
use Rattle.c_eval.specs.Passing.{passed}
use Rattle.c_eval_state.specs.declared.end.EvalEnd.{EvalEnd}
use Rattle.c_eval_state.specs.declared.end.EvalEnd.TheVariants.{Ended, Trapped, TurnsSpent, ReadFault, WriteFault, NoMemory}
use Rattle.c_eval.specs.Runs.{EvalTold, Gives, GivesSoFar, WritesSoFar, outcome_in}
use Rattle.c_eval.specs.Standing.{Ran, Standing}

-- the next step of a configuration
abbrev pub next_step : Program → Configuration → State → Stepped
next_step p c s = step p nothing_listed c.function c.way c.tasks c.values c.places s

-- a task ahead is done
pub ahead_step : (p : Program) (task : Task) (c : Configuration) (s : State) → c.way ≡ Ahead
    → next_step p (doing task c) s ≡ done p nothing_listed task c s
ahead_step p task c s h = rw h refl

pub ahead_turn : (p : Program) (task : Task) (c : Configuration) → c.way ≡ Ahead
    → takes_turn p c.way (task ∷ c.tasks) ≡ is_turn p task
ahead_turn p task c h = rw h refl

-- any other is passed over, and takes no turn
passed_way : (p : Program) (way : Way) (task : Task) (c : Configuration) (s : State) → way ≢ Ahead
    → step p nothing_listed c.function way (task ∷ c.tasks) c.values c.places s
    ≡ passing_step way c.function task c.tasks c.values c.places s
passed_way p Ahead task c s h = absurd (h refl)
passed_way p Breaking task c s h = refl
passed_way p Continuing task c s h = refl
passed_way p Returning task c s h = refl

pub passed_step : (p : Program) (task : Task) (c : Configuration) (s : State) → c.way ≢ Ahead
    → next_step p (doing task c) s ≡ passed task c s
passed_step p task c s h = passed_way p c.way task c s h

pub passed_turn : (p : Program) (way : Way) (ts : List Task) → way ≢ Ahead → takes_turn p way ts ≡ false
passed_turn p Ahead ts h = absurd (h refl)
passed_turn p Breaking ts h = refl
passed_turn p Continuing ts h = refl
passed_turn p Returning ts h = refl

-- a step that goes on
pub ran_on : (p : Program) (turns rest rest' : ℕ) (left taken : List ℕ) (old new : Standing) (s : State)
    → (r : Ran p turns rest left taken old)
    → next_step p old.config (over r.state old.kept) ≡ GivesNext new.config (over s new.kept)
    → s.turns ≡ rest' → new.streams.left ≡ s.left → s.left ≡ drop s.taken left
    → new.streams.taken ≡ taken ++ s.written
    → Ran p turns rest' left taken new
ran_on p turns rest rest' left taken old new s r e t l d w =
    let c : Configuration = old.config in
    record {
      state = s;
      same = sym (steps_go_on p nothing_listed c.function c.way c.tasks c.values c.places (over r.state old.kept)
          new.config (over s new.kept) e).same ∙ r.same;
      turns_left = t;
      left_is = l;
      took = d;
      wrote = w;
    }

-- what was written and taken so far is the first of what the turns write and take
pub ran_goes : (p : Program) (turns rest : ℕ) (left taken : List ℕ) (old : Standing)
    → (r : Ran p turns rest left taken old) → GoesOn (outcome_at Goes (over r.state old.kept)) (outcome_in p turns left)
ran_goes p turns rest left taken old r =
    let c : Configuration = old.config in
    subst (λ (o : Outcome). GoesOn (outcome_at Goes (over r.state old.kept)) o) r.same
    (rest_goes_on p nothing_listed c.function c.way c.tasks c.values c.places (over r.state old.kept))

front_is : (before all others : List ℕ) → all ≡ before ++ others → before ≡ take (length before) all
front_is before all others e = sym (take-append_seam before others) ∙ ap (take (length before)) (sym e)

-- bytes of which the turns write these and others
pub writes_front : (p : Program) (turns : ℕ) (left taken taken' before others : List ℕ)
    → (outcome_in p turns left).written ≡ before ++ others → taken' ≡ taken ++ before
    → WritesSoFar p turns left taken taken'
writes_front p turns left taken taken' before others e w =
    (length before, w ∙ ap (λ (l : List ℕ). taken ++ l) (front_is before (outcome_in p turns left).written others e))

pub ran_wrote : (p : Program) (turns rest : ℕ) (left taken taken' : List ℕ) (old : Standing)
    → Ran p turns rest left taken old → taken' ≡ old.streams.taken → WritesSoFar p turns left taken taken'
ran_wrote p turns rest left taken taken' old r same =
    let goes : GoesOn (outcome_at Goes (over r.state old.kept)) (outcome_in p turns left) =
    ran_goes p turns rest left taken old r in
    writes_front p turns left taken taken' r.state.written goes.written.0 goes.written.1 (same ∙ r.wrote)

pub ran_far : (p : Program) (turns rest : ℕ) (left taken left' taken' : List ℕ) (old : Standing)
    → Ran p turns rest left taken old → left' ≡ old.streams.left → WritesSoFar p turns left taken taken'
    → GivesSoFar p turns left left' taken taken'
ran_far p turns rest left taken left' taken' old r l wrote = (
  r.state.taken,
  (ran_goes p turns rest left taken old r).taken,
  l ∙ r.left_is ∙ r.took,
  wrote,
)

-- a step that ends the program
pub ran_ends : (p : Program) (turns rest : ℕ) (left taken left' taken' : List ℕ) (old : Standing) (kept' : Kept)
    (end : End) → (r : Ran p turns rest left taken old)
    → next_step p old.config (over r.state old.kept) ≡ Ends end (over r.state kept')
    → left' ≡ old.streams.left → taken' ≡ old.streams.taken → Gives p turns left left' taken taken' end
ran_ends p turns rest left taken left' taken' old kept' end r e l w =
    let c : Configuration = old.config in
    let is : outcome_at end (over r.state kept') ≡ outcome_in p turns left =
    sym (steps_end p nothing_listed c.function c.way c.tasks c.values c.places (over r.state old.kept)
    end (over r.state kept') e) ∙ r.same in (
      ap (λ (o : Outcome). o.end) (sym is),
      l ∙ r.left_is ∙ r.took ∙ ap (λ (o : Outcome). drop o.taken left) is,
      w ∙ r.wrote ∙ ap (λ (o : Outcome). taken ++ o.written) is,
    )

-- a step that ends so, or finds no memory
pub ran_stops : (p : Program) (turns rest : ℕ) (left taken left' taken' : List ℕ) (old : Standing) (c' : Configuration)
    (kept' : Kept) (end : EvalEnd) → (r : Ran p turns rest left taken old)
    → Comes (Err end) (next_step p old.config (over r.state old.kept)) c' (over r.state kept')
    → left' ≡ old.streams.left → taken' ≡ old.streams.taken → EvalTold p turns left left' taken taken' end
unfolding EvalTold
ran_stops p turns rest left taken left' taken' old c' kept' (Ended status) r h l w =
    ran_ends p turns rest left taken left' taken' old kept' (outcome.Ended status) r h l w
ran_stops p turns rest left taken left' taken' old c' kept' (Trapped trap) r h l w =
    ran_ends p turns rest left taken left' taken' old kept' (outcome.Trapped trap) r h l w
ran_stops p turns rest left taken left' taken' old c' kept' TurnsSpent r h l w =
    ran_ends p turns rest left taken left' taken' old kept' outcome.Goes r h l w
ran_stops p turns rest left taken left' taken' old c' kept' ReadFault r h l w = absurd h
ran_stops p turns rest left taken left' taken' old c' kept' WriteFault r h l w = absurd h
ran_stops p turns rest left taken left' taken' old c' kept' NoMemory r h l w =
    ran_wrote p turns rest left taken taken' old r w
