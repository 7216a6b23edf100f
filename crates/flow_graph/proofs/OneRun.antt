-- A run has one outcome, whatever the bound on its steps.
use Rattle.std.proofs.Common.{◌≡◌, ℕ, zero, suc, ◌+◌, ◌<◌, ◌≤◌, Bool, true, false, Option, Some, None, refl, sym, ap}
use Rattle.std.proofs.Common.{◌∙◌, subst, arith}
use Rattle.std.specs.Prelude.{option_map}
use Rattle.std.proofs.lemmas.Option.{same_Some, none-some}
use Rattle.pcc_base.specs.Outcome.{Listing, Outcome, after_visits}
use Rattle.flow_graph.specs.Meaning.{Moved, Moves, Halts, Stuck, step}
use Rattle.flow_graph.specs.Running.{NeverStuckWithOutcomes, OneOutcome, OneState, from_state, outcome_at, outcome_from}
use Rattle.flow_graph.specs.Running.{run_within, state_after, takes_turn, visits_at, with_turn}
use Rattle.flow_graph.specs.States.{GraphProgram, State, op_at}

-- where both are there, they are the same
abbrev Agree : {A : Type 0} → Option A → Option A → Type 0
Agree {A} o p = (a b : A) → o ≡ Some a → p ≡ Some b → a ≡ b

agree-none : {A : Type 0} (o : Option A) → Agree None o
agree-none o a b e f = absurd (none-some a e)

agree-same : {A : Type 0} (o : Option A) → Agree o o
agree-same o a b e f = same_Some a b (sym e ∙ f)

agree-map : {A B : Type 0} (f : A → B) (o p : Option A) → Agree o p → Agree (option_map f o) (option_map f p)
agree-map f None p h a b e g = absurd (none-some a e)
agree-map f (Some x) None h a b e g = absurd (none-some b g)
agree-map f (Some x) (Some y) h a b e g = sym (same_Some (f x) a e) ∙ ap f (h x y refl refl) ∙ same_Some (f y) b g

agree-from : (m : Moved) (s : State) (go other : State → Option Outcome) → ((t : State) → Agree (go t) (other t))
    → Agree (outcome_from m s go) (outcome_from m s other)
agree-from (Moves t) s go other h = h t
agree-from (Halts end) s go other h = agree-same (Some (outcome_at s end))
agree-from Stuck s go other h = agree-none None

agree-turn : (takes : Bool) (turns : ℕ) (s : State) (go other : ℕ → Option Outcome)
    → ((left : ℕ) → Agree (go left) (other left)) → Agree (with_turn takes turns s go) (with_turn takes turns s other)
agree-turn false turns s go other h = h turns
agree-turn true zero s go other h = agree-same (with_turn true zero s go)
agree-turn true (suc turns) s go other h = h turns

runs-agree : (program : GraphProgram) (listing : Listing) (k j turns : ℕ) (s : State)
    → Agree (run_within program listing k turns s) (run_within program listing j turns s)
runs-agree program listing zero j turns s = agree-none (run_within program listing j turns s)
runs-agree program listing (suc k) zero turns s = λ a b e f. absurd (none-some b f)
runs-agree program listing (suc k) (suc j) turns s =
    agree-turn (takes_turn (op_at program s)) turns s _ _
    (λ left. agree-map (after_visits (visits_at listing s (op_at program s))) _ _
    (agree-from (step program s) s _ _ (λ t. runs-agree program listing k j left t)))

pub one_outcome : OneOutcome
one_outcome program listing input turns a b (s, first, k, run) (t, other, j, run') =
    let same : t ≡ s = same_Some t s (sym other ∙ first) in
    runs-agree program listing k j turns s a b run
    (subst (λ (u : State). run_within program listing j turns u ≡ Some b) same run')

pub one_state : OneState
one_state program input k a b (s, first, run) (t, other, run') =
    let same : t ≡ s = same_Some t s (sym other ∙ first) in
    same_Some a b (sym run ∙ subst (λ (u : State). state_after program k u ≡ Some b) same run')

-- ---- a program with an outcome in every number of turns is never stuck

none-turn : (takes : Bool) (turns : ℕ) (s : State) (go : ℕ → Option Outcome) → 0 < turns
    → ((left : ℕ) → turns ≤ left + 1 → go left ≡ None) → with_turn takes turns s go ≡ None
none-turn false turns s go some h = h turns (omega arith)
none-turn true zero s go some h = absurd (omega (arith, some))
none-turn true (suc turns) s go some h = h turns (omega arith)

none-map : {A B : Type 0} (f : A → B) (o : Option A) → o ≡ None → option_map f o ≡ None
none-map f o e = ap (option_map f) e

none-from : (m : Moved) (s t : State) (after : State → Option State) (go : State → Option Outcome)
    → from_state m after ≡ Some t → ((u : State) → after u ≡ Some t → go u ≡ None) → outcome_from m s go ≡ None
none-from (Moves u) s t after go e h = h u e
none-from (Halts end) s t after go e h = absurd (none-some t e)
none-from Stuck s t after go e h = absurd (none-some t e)

-- a run that comes to a stuck state has no outcome in more turns than steps
stuck-none : (program : GraphProgram) (listing : Listing) (k j turns : ℕ) (s t : State)
    → state_after program k s ≡ Some t → step program t ≡ Stuck → k < turns → run_within program listing j turns s
    ≡ None
stuck-none program listing k zero turns s t after stuck more = refl
stuck-none program listing zero (suc j) turns s t after stuck more =
    let same : s ≡ t = same_Some s t after in
    none-turn (takes_turn (op_at program s)) turns s _ (omega arith)
    (λ left le. none-map _ _ (ap (λ (m : Moved). outcome_from m s (run_within program listing j left))
    (ap (step program) same ∙ stuck)))
stuck-none program listing (suc k) (suc j) turns s t after stuck more =
    none-turn (takes_turn (op_at program s)) turns s _ (omega arith)
    (λ left le. none-map _ _ (none-from (step program s) s t (state_after program k) _ after
    (λ u on. stuck-none program listing k j left u t on stuck (omega (arith, le, more)))))

pub never_stuck : NeverStuckWithOutcomes
never_stuck program listing outcomes input k t (s, first, after) stuck =
    let (o, (u, other, j, run)) = outcomes input (k + 1) in
    let same : u ≡ s = same_Some u s (sym other ∙ first) in
    let run' : run_within program listing j (k + 1) s ≡ Some o =
    subst (λ (v : State). run_within program listing j (k + 1) v ≡ Some o) same run in
    let none : run_within program listing j (k + 1) s ≡ None =
    stuck-none program listing k j (k + 1) s t after stuck (omega arith) in
    absurd (none-some o (sym none ∙ run'))
