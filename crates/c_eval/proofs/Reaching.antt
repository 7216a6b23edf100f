-- Steps that lead from one configuration to another, for what is done at once of an expression.
use Rattle.std.proofs.Common.{◌≡◌, ◌<◌, ℕ, ℤ, false, [], ◌∷◌, refl, sym, ap, subst, ◌∙◌, arith, inl, inr, Ok, Err}
use Rattle.std.specs.Prelude.{Option, Some, None, Result}
use Rattle.pcc_base.specs.Outcome.{nothing_listed}
use Rattle.c_tree.specs.Evaluation.{InLocal, first_state}
use Rattle.c_tree.specs.Operators.{Computed, working_type}
use Rattle.c_tree.specs.Program.{Expression, Assign, Binary, Constant, LocalPlace, Program, Read, Step, value_type}
use Rattle.c_tree.specs.Store.{Held, HoldsNumber, State, Gives, and_then, converted, held}
use Rattle.c_tree.specs.Evaluation.{computed}
use Rattle.c_tree.specs.declared.expression.BinaryOp.{BinaryOp}
use Rattle.c_tree.specs.declared.expression.StepOp.{StepOp}
use Rattle.c_tree.specs.declared.types.IntegerType.{IntegerType}
use Rattle.c_tree.specs.declared.types.ValueType.{ValueType}
use Rattle.c_eval_laws.specs.TasksLaws.{WentOn}
use Rattle.c_eval_laws.specs.Steps.{Configuration, go_on}
use Rattle.c_eval_laws.specs.Tasks.{Task, Ahead, AppliesBinary, Evaluates, Loads, LoadsOld, Locates, Steps, Stores, Way}
use Rattle.c_eval_laws.specs.Weights.{takes_turn, weights}
use Rattle.c_eval_laws.proofs.Corollaries.{steps_go_on}
use Rattle.c_eval_state.specs.Kept.{Kept, over}
use Rattle.c_eval_state.specs.Changes.{at_place, doing, holding}
use Rattle.c_eval_state.specs.Views.{task_of}
use Rattle.c_eval_state.specs.declared.end.EvalEnd.{EvalEnd}
use Rattle.c_eval_state.specs.declared.task.Task as memory
use Rattle.c_eval_state.specs.declared.task.Task.TheVariants as tasks
use Rattle.c_eval.specs.AtOnce.{IsApplied, IsLocalNumber, IsNumber, Reaches, Shortened}
use Rattle.c_eval.specs.Performs.{Fits}
use Rattle.c_eval.specs.Standing.{Advanced, Standing, Steps as Stepping, before_task}
use Rattle.c_eval.specs.declared.next.Turn.{Turn}
use Rattle.c_eval.proofs.Going.{next_step}
use Rattle.c_eval.proofs.Stepping.{moved, same_counts, same_tells}
use Rattle.c_eval.proofs.Walking.{Walks, walks_meets, walks_more, walks_stops}

-- one step
reach_step : (p : Program) (kept : Kept) (c d : Configuration)
    → ((s : State) → next_step p c (over s kept) ≡ Gives d (over s kept))
    → takes_turn p c.way c.tasks ≡ false → Reaches p kept c d
reach_step p kept c d e still =
    let s : State = first_state p [] 0 in
    let went : WentOn p nothing_listed c.function c.way c.tasks c.values c.places (over s kept) d (over s kept) =
    steps_go_on p nothing_listed c.function c.way c.tasks c.values c.places (over s kept) d (over s kept) (e s) in
    record {
      same = λ t. (steps_go_on p nothing_listed c.function c.way c.tasks c.values c.places (over t kept) d
          (over t kept) (e t)).same;
      fits = went.fits;
      falls = (went.falls still).1;
    }

-- one after another
reach_then : (p : Program) (kept : Kept) (a b d : Configuration) → Reaches p kept a b → Reaches p kept b d
    → Reaches p kept a d
reach_then p kept a b d r q = record {
  same = λ s. r.same s ∙ q.same s;
  fits = λ h. q.fits (r.fits h);
  falls = omega (arith, r.falls, q.falls);
}

-- ---- numbers

pub number_constant : (kept : Kept) (of : IntegerType) (n : ℤ)
    → IsNumber (Constant of n) kept (Some (converted of n))
number_constant kept of n = λ p f ts vs fs. reach_step p kept (go_on f (Evaluates (Constant of n) ∷ ts) vs fs)
    (go_on f ts (HoldsNumber (converted of n) ∷ vs) fs) (λ s. refl) refl

pub number_local : (kept : Kept) (of : ValueType) (k : ℕ) (r : Option ℤ) → IsLocalNumber k kept r
    → IsNumber (Read of (LocalPlace k)) kept r
number_local kept of k None h = tt
number_local kept of k (Some n) h = λ p f ts vs fs.
    let a : Configuration = go_on f (Evaluates (Read of (LocalPlace k)) ∷ ts) vs fs in
    let b : Configuration = go_on f (Locates (LocalPlace k) ∷ Loads ∷ ts) vs fs in
    let c : Configuration = go_on f (Loads ∷ ts) vs (InLocal k ∷ fs) in
    let d : Configuration = go_on f ts (HoldsNumber n ∷ vs) fs in
    reach_then p kept a b d (reach_step p kept a b (λ s. refl) refl)
    (reach_then p kept b c d (reach_step p kept b c (λ s. refl) refl)
    (reach_step p kept c d
    (λ s. ap (λ (v : Held). Gives (go_on f ts (v ∷ vs) fs) (over s kept)) (h s)) refl))

pub number_binary : (kept : Kept) (of : ValueType) (op : BinaryOp) (x y : Expression) (m n : ℤ) (r : Option ℤ)
    → IsNumber x kept (Some m) → IsNumber y kept (Some n)
    → IsApplied (working_type op (value_type x) (value_type y)) op m n r → IsNumber (Binary of op x y) kept r
number_binary kept of op x y m n None first second h = tt
number_binary kept of op x y m n (Some k) first second h = λ p f ts vs fs.
    let applies : Task = AppliesBinary (working_type op (value_type x) (value_type y)) op in
    let a : Configuration = go_on f (Evaluates (Binary of op x y) ∷ ts) vs fs in
    let b : Configuration = go_on f (Evaluates x ∷ Evaluates y ∷ applies ∷ ts) vs fs in
    let c : Configuration = go_on f (Evaluates y ∷ applies ∷ ts) (HoldsNumber m ∷ vs) fs in
    let d : Configuration = go_on f (applies ∷ ts) (HoldsNumber n ∷ HoldsNumber m ∷ vs) fs in
    let e : Configuration = go_on f ts (HoldsNumber k ∷ vs) fs in
    reach_then p kept a b e (reach_step p kept a b (λ s. refl) refl)
    (reach_then p kept b c e (first p f (Evaluates y ∷ applies ∷ ts) vs fs)
    (reach_then p kept c d e (second p f (applies ∷ ts) (HoldsNumber m ∷ vs) fs)
    (reach_step p kept d e
    (λ s. ap (λ (v : Computed). and_then (computed v (over s kept))
    (λ (w : Held) (t : State). Gives (go_on f ts (w ∷ vs) fs) t)) h) refl)))

-- ---- expressions that are shortened

-- where tasks are done
is_ahead : (c : Configuration) → c.way ≡ Ahead → c ≡ go_on c.function c.tasks c.values c.places
is_ahead c h = ap (λ (w : Way). record c { way = w }) h

-- an assignment to a local
assign_reaches : (p : Program) (kept : Kept) (c : Configuration) (of : ValueType) (k : ℕ) (e : Expression) (n : ℤ)
    → c.way ≡ Ahead → IsNumber e kept (Some n)
    → Reaches p kept (doing (Evaluates (Assign of (LocalPlace k) e)) c)
    (doing (Stores of) (holding (HoldsNumber n) (at_place (InLocal k) c)))
assign_reaches p kept c of k e n ahead number =
    let f = c.function in
    let ts = c.tasks in
    let vs = c.values in
    let fs = c.places in
    let x : Configuration = go_on f (Evaluates (Assign of (LocalPlace k) e) ∷ ts) vs fs in
    let y : Configuration = go_on f (Locates (LocalPlace k) ∷ Evaluates e ∷ Stores of ∷ ts) vs fs in
    let z : Configuration = go_on f (Evaluates e ∷ Stores of ∷ ts) vs (InLocal k ∷ fs) in
    let w : Configuration = go_on f (Stores of ∷ ts) (HoldsNumber n ∷ vs) (InLocal k ∷ fs) in
    subst (λ (d : Configuration). Reaches p kept (doing (Evaluates (Assign of (LocalPlace k) e)) d)
    (doing (Stores of) (holding (HoldsNumber n) (at_place (InLocal k) d)))) (sym (is_ahead c ahead))
    (reach_then p kept x y w (reach_step p kept x y (λ s. refl) refl)
    (reach_then p kept y z w (reach_step p kept y z (λ s. refl) refl)
    (number p f (Stores of ∷ ts) vs (InLocal k ∷ fs))))

pub assign_shortened : (kept : Kept) (old new : Configuration) (of : ValueType) (k : ℕ) (e : Expression) (n : ℤ)
    → old.way ≡ Ahead → IsNumber e kept (Some n) → new ≡ holding (HoldsNumber n) (at_place (InLocal k) old)
    → Shortened (Assign of (LocalPlace k) e) kept old new (Some (tasks.Stores of))
assign_shortened kept old new of k e n ahead number is =
    subst (λ (c : Configuration). Shortened (Assign of (LocalPlace k) e) kept old c (Some (tasks.Stores of))) (sym is)
    (ahead, λ p. inr (assign_reaches p kept old of k e n ahead number))

-- `++` and `--` of a local
step_reaches : (p : Program) (kept : Kept) (c : Configuration) (of : ValueType) (op : StepOp) (k : ℕ) (v : Held)
    → c.way ≡ Ahead → ((s : State) → v ≡ held (over s kept) k)
    → Reaches p kept (doing (Evaluates (Step of op (LocalPlace k))) c)
    (doing (Steps of op) (holding v (at_place (InLocal k) c)))
step_reaches p kept c of op k v ahead is =
    let f = c.function in
    let ts = c.tasks in
    let vs = c.values in
    let fs = c.places in
    let x : Configuration = go_on f (Evaluates (Step of op (LocalPlace k)) ∷ ts) vs fs in
    let y : Configuration = go_on f (Locates (LocalPlace k) ∷ LoadsOld ∷ Steps of op ∷ ts) vs fs in
    let z : Configuration = go_on f (LoadsOld ∷ Steps of op ∷ ts) vs (InLocal k ∷ fs) in
    let w : Configuration = go_on f (Steps of op ∷ ts) (v ∷ vs) (InLocal k ∷ fs) in
    subst (λ (d : Configuration). Reaches p kept (doing (Evaluates (Step of op (LocalPlace k))) d)
    (doing (Steps of op) (holding v (at_place (InLocal k) d)))) (sym (is_ahead c ahead))
    (reach_then p kept x y w (reach_step p kept x y (λ s. refl) refl)
    (reach_then p kept y z w (reach_step p kept y z (λ s. refl) refl)
    (reach_step p kept z w
    (λ s. ap (λ (u : Held). Gives (go_on f (Steps of op ∷ ts) (u ∷ vs) (InLocal k ∷ fs)) (over s kept))
    (sym (is s))) refl)))

pub step_shortened : (kept : Kept) (old new : Configuration) (of : ValueType) (op : StepOp) (k : ℕ) (v : Held)
    → old.way ≡ Ahead → ((s : State) → v ≡ held (over s kept) k) → new ≡ holding v (at_place (InLocal k) old)
    → Shortened (Step of op (LocalPlace k)) kept old new (Some (tasks.Steps of op))
step_shortened kept old new of op k v ahead is e =
    subst (λ (c : Configuration). Shortened (Step of op (LocalPlace k)) kept old c (Some (tasks.Steps of op))) (sym e)
    (ahead, λ p. inr (step_reaches p kept old of op k v ahead is))

-- a number
pub number_shortened : (kept : Kept) (old new : Configuration) (e : Expression) (n : ℤ) → old.way ≡ Ahead
    → IsNumber e kept (Some n) → new ≡ holding (HoldsNumber n) old → Shortened e kept old new None
number_shortened kept old new e n ahead number is = λ p.
    subst (λ (c : Configuration). Reaches p kept (doing (Evaluates e) old) c) (sym is)
    (subst (λ (c : Configuration). Reaches p kept (doing (Evaluates e) c) (holding (HoldsNumber n) c))
    (sym (is_ahead old ahead)) (number p old.function old.tasks old.values old.places))

-- any other stays
pub stays_whole : (kept : Kept) (c : Configuration) (e : Expression) (task : memory.Task) → c.way ≡ Ahead
    → task_of task ≡ Evaluates e → Shortened e kept c c (Some task)
stays_whole kept c e task ahead is = (ahead, λ p. inl (ap (λ (t : Task). doing t c) is))

-- ---- standings

-- what is reached is a part of a run
reached_walks : (p : Program) (now : Standing) (new : Configuration) → Fits now.config
    → Reaches p now.kept now.config new → Walks p now (moved now new now.kept)
reached_walks p now new fits r = record {
  tells = same_tells now.streams;
  counted = same_counts now.streams;
  fits = r.fits fits;
  on = λ both rest turns left taken ran. record {
    state = ran.state;
    same = sym (r.same ran.state) ∙ ran.same;
    turns_left = ran.turns_left;
    left_is = ran.left_is;
    took = ran.took;
    wrote = ran.wrote;
  };
}

pub reached_steps : (p : Program) (now : Standing) (new : Configuration) → Fits now.config
    → Reaches p now.kept now.config new → Stepping p now (moved now new now.kept)
reached_steps p now new fits r =
    let w : Walks p now (moved now new now.kept) = reached_walks p now new fits r in
    record { tells = w.tells; counted = w.counted; fits = w.fits; falls = r.falls; on = w.on }

-- one step behind what was reached
steps_behind : (p : Program) (a b d : Standing) → Walks p a b → weights b.config.tasks < weights a.config.tasks
    → Stepping p b d → Stepping p a d
steps_behind p a b d w falls s =
    let whole : Walks p a d = walks_more p a b d w s in
    record {
      tells = whole.tells;
      counted = whole.counted;
      fits = whole.fits;
      falls = omega (arith, falls, s.falls);
      on = whole.on;
    }

advanced_behind : (p : Program) (a b d : Standing) (result : Result (Option Turn) EvalEnd) → Walks p a b
    → weights b.config.tasks < weights a.config.tasks → Advanced p b d result → Advanced p a d result
advanced_behind p a b d (Ok None) w falls h = steps_behind p a b d w falls h
advanced_behind p a b d (Ok (Some turn)) w falls h = walks_meets p turn a b d w h
advanced_behind p a b d (Err end) w falls h = walks_stops p end a b d w h

-- what the task that is left comes to, the whole comes to
pub advanced_shortened : (p : Program) (e : Expression) (task : memory.Task) (now d : Standing) (new : Configuration)
    (result : Result (Option Turn) EvalEnd) → Fits (doing (Evaluates e) now.config)
    → Shortened e now.kept now.config new (Some task)
    → Advanced p (before_task (task_of task) (moved now new now.kept)) d result
    → Advanced p (before_task (Evaluates e) now) d result
advanced_shortened p e task now d new result fits h done = elim (h.1 p) [
  | inl same ↦ subst (λ (c : Configuration). Advanced p (moved now c now.kept) d result) same done
  | inr r ↦ advanced_behind p (before_task (Evaluates e) now)
      (before_task (task_of task) (moved now new now.kept)) d result
      (reached_walks p (before_task (Evaluates e) now) (doing (task_of task) new) fits r) r.falls done
]

-- the task that is left fits
pub shortened_fits : (p : Program) (e : Expression) (task : memory.Task) (kept : Kept) (old new : Configuration)
    → Fits (doing (Evaluates e) old) → Shortened e kept old new (Some task) → Fits (doing (task_of task) new)
shortened_fits p e task kept old new fits h = elim (h.1 p) [
  | inl same ↦ subst (λ (c : Configuration). Fits c) (sym same) fits
  | inr r ↦ r.fits fits
]
