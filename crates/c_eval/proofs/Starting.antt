-- The evaluation of a program, from before its start.
use Rattle.std.proofs.Common.{◌≡◌, ◌++◌, ℕ, suc, List, [], drop, refl, sym, ap, subst, ◌∙◌, append-nil, None}
use Rattle.std.specs.Prelude.{Option, slice_get}
use Rattle.pcc_base.specs.Outcome.{Outcome, nothing_listed}
use Rattle.pcc_base.specs.Outcome as outcome
use Rattle.c_tree.specs.Evaluation.{call_within, first_state, outcome_at, outcome_of, run_function}
use Rattle.c_tree.specs.Program.{Function, Program}
use Rattle.c_tree.specs.Store.{State}
use Rattle.c_eval_laws.specs.Steps.{Configuration, first_tasks, go_on, rest_of}
use Rattle.c_eval_laws.proofs.Serving.{start_fits}
use Rattle.c_eval_laws.proofs.Starting.{starts}
use Rattle.c_eval_state.specs.Kept.{Kept, over}
use Rattle.c_eval_state.specs.declared.end.EvalEnd.{EvalEnd}
use Rattle.c_eval_state.specs.declared.end.EvalEnd.TheVariants.{Ended, NoMemory}
use Rattle.c_eval.specs.Performs.{Fits}
use Rattle.c_eval.specs.Runs.{EvalTold, outcome_in}
use Rattle.c_eval.specs.Standing.{Ran, Standing, Streams}
use Rattle.c_eval.specs.Whole.{EndsAt}
use Rattle.c_eval.proofs.Advancing.{at}

-- the first tasks fit
pub first_fits : (p : Program) (f : Function) (c : Configuration) → c ≡ go_on f (first_tasks p) [] [] → Fits c
first_fits p f c is = subst (λ (d : Configuration). Fits d) (sym is) (start_fits p)

-- the run before its first step
pub ran_first : (p : Program) (turns : ℕ) (f : Function) (c : Configuration) (kept : Kept) (streams : Streams)
    → c ≡ go_on f (first_tasks p) [] []
    → over (first_state p streams.left turns) kept ≡ first_state p streams.left turns
    → Ran p turns turns streams.left streams.taken (at c kept streams)
ran_first p turns f c kept streams is held = record {
  state = first_state p streams.left turns;
  same = ap (λ (d : Configuration). rest_of p nothing_listed d (over (first_state p streams.left turns) kept)) is
      ∙ ap (λ (s : State). rest_of p nothing_listed (go_on f (first_tasks p) [] []) s) held
      ∙ starts p nothing_listed streams.left turns f;
  turns_left = refl;
  left_is = refl;
  took = refl;
  wrote = sym (append-nil streams.taken);
}

-- a run from the start
pub eval_told : (p : Program) (turns : ℕ) (end : EvalEnd) (f : Function) (c : Configuration) (kept : Kept)
    (streams : Streams) (new : Standing) → c ≡ go_on f (first_tasks p) [] []
    → over (first_state p streams.left turns) kept ≡ first_state p streams.left turns
    → EndsAt p turns end (at c kept streams) new → streams.input_tells → streams.out_tells
    → EvalTold p turns streams.left new.streams.left streams.taken new.streams.taken end
eval_told p turns end f c kept streams new is held ends input out =
    ends.ends (input, out) turns streams.left streams.taken (ran_first p turns f c kept streams is held)

-- a program without `main` gives 0
none_outcome : (p : Program) (turns : ℕ) (left : List ℕ) → slice_get p.functions p.main ≡ None
    → outcome_in p turns left ≡ outcome_at (outcome.Ended 0) (first_state p left turns)
none_outcome p turns left none =
    ap (λ (o : Option Function). outcome_of (run_function (call_within turns p nothing_listed) (suc turns)
    nothing_listed o [] (first_state p left turns))) none

pub none_told : (p : Program) (turns : ℕ) (left taken : List ℕ) → slice_get p.functions p.main ≡ None
    → EvalTold p turns left left taken taken (Ended 0)
unfolding EvalTold
none_told p turns left taken none =
    let is : outcome_in p turns left ≡ outcome_at (outcome.Ended 0) (first_state p left turns) =
    none_outcome p turns left none in (
      ap (λ (o : Outcome). o.end) is,
      sym (ap (λ (o : Outcome). drop o.taken left) is),
      sym (append-nil taken) ∙ sym (ap (λ (o : Outcome). taken ++ o.written) is),
    )

-- no memory is found before the start
pub wanting_told : (p : Program) (turns : ℕ) (left taken : List ℕ) → EvalTold p turns left left taken taken NoMemory
unfolding EvalTold
wanting_told p turns left taken = (0, sym (append-nil taken))
