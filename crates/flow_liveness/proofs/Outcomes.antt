-- The form has the outcomes of its graphs.
use Rattle.std.proofs.Common.{◌≡◌, ℕ, zero, suc, Bool, true, false, List, [], ◌∷◌, map}
use Rattle.std.proofs.Common.{Option, Some, None, refl, sym, ap, ◌∙◌, subst}
use Rattle.std.specs.Prelude.{option_map, slice_get}
use Rattle.std.specs.List.{All}
use Rattle.std.proofs.lemmas.List.Elements.{All-head, All-tail}
use Rattle.std.proofs.lemmas.Option.{none-some, same_Some}
use Rattle.pcc_base.specs.Outcome.{Array, ArrayOf, IndexOf, Listing, Outcome, Part, Scalar, Value, Visit, after_visits}
use Rattle.flow_graph.specs.declared.op.Op.{Op}
use Rattle.flow_graph.specs.declared.op.Op.TheVariants as op
use Rattle.flow_graph.specs.Kinds.{marked}
use Rattle.flow_graph.specs.Meaning.{Moved, Moves, Halts, Stuck, step}
use Rattle.flow_graph.specs.Running.{GraphOutcome, array_or_unknown, first_state, number_or_unknown, outcome_at}
use Rattle.flow_graph.specs.Running.{outcome_from, part_value, run_within, takes_turn, visits_at, visits_of, with_turn}
use Rattle.flow_graph.specs.States.{State, array_from, number_of, op_at}
use Rattle.flow_graph.specs.WellFormed.{IsState}
use Rattle.flow_graph.proofs.Keeping.{first_is_state, step_keeps_state}
use Rattle.flow_liveness.specs.FormLaws.{Fits, FitsMove, FormKeepsOutcome, ListsLive, variable_of}
use Rattle.flow_liveness.specs.FormRuns.{FormOutcome, first_form, form_outcome_from, form_run_within}
use Rattle.flow_liveness.specs.Forms.{FormMoved, FormMoves, FormHalts, FormProgram, FormState, FormStuck}
use Rattle.flow_liveness.specs.Forms.{IsFormProgram, form_step}
use Rattle.flow_liveness.proofs.Fitting.{first_fits, now-agree, step_fits}
use Rattle.flow_liveness.proofs.Leading.{Agree, Before}
use Rattle.flow_liveness.proofs.Overlays.{over}
use Rattle.flow_liveness.proofs.Settling.{opened-over, openings, openings-now}

-- only a mark marks
marks : (o : Op) (statement : ℕ) → marked o ≡ Some statement → o ≡ op.Mark statement
marks (op.Mark statement) st e = ap op.Mark (same_Some statement st e)
marks _ st e = absurd (none-some st e)

-- ---- visits

-- the variable has the same value in both
abbrev Same : State → List Value → ℕ → Type 0
Same g vs v = slice_get vs v ≡ slice_get g.current.variables v

part-same : (g : State) (vs : List Value) (vss : List (List Value)) (p : Part) → Same g vs (variable_of p)
    → part_value (over g vs vss) p ≡ part_value g p
part-same g vs vss (Scalar v) e = ap (λ (o : Option Value). number_or_unknown (number_of o)) e
part-same g vs vss (ArrayOf v) e = ap (λ (o : Option Value). Array (array_or_unknown (array_from o))) e
part-same g vs vss (IndexOf v) e = ap (λ (o : Option Value). number_or_unknown (number_of o)) e

parts-same : (g : State) (vs : List Value) (vss : List (List Value)) (Live : ℕ → Type 0) (ps : List Part)
    → ((v : ℕ) → Live v → Same g vs v) → All (λ p. Live (variable_of p)) ps
    → map (part_value (over g vs vss)) ps ≡ map (part_value g) ps
parts-same g vs vss Live [] same live = refl
parts-same g vs vss Live (p ∷ ps) same live =
    both (part_value (over g vs vss) p) (part_value g p) (map (part_value (over g vs vss)) ps) (map (part_value g) ps)
    (part-same g vs vss p (same (variable_of p) (All-head (λ q. Live (variable_of q)) p ps live)))
    (parts-same g vs vss Live ps same (All-tail (λ q. Live (variable_of q)) p ps live))
  where
    both : (x y : Value) (xs ys : List Value) → x ≡ y → xs ≡ ys → x ∷ xs ≡ y ∷ ys
    both x y xs ys e f = cc

-- a visit shows the same
visits-same : (g : State) (vs : List Value) (vss : List (List Value)) (Live : ℕ → Type 0) (listing : Listing)
    (o : Option Op) → ((v : ℕ) → Live v → Same g vs v)
    → ((statement : ℕ) → o ≡ Some (op.Mark statement) → All (λ p. Live (variable_of p)) (listing statement))
    → visits_at listing (over g vs vss) o ≡ visits_at listing g o
visits-same g vs vss Live listing None same live = refl
visits-same g vs vss Live listing (Some p) same live = by (marked p) (λ st e. live st (ap Some (marks p st e)))
  where
    by : (m : Option ℕ)
        → ((statement : ℕ) → m ≡ Some statement → All (λ p. Live (variable_of p)) (listing statement))
        → visits_of listing (over g vs vss) m ≡ visits_of listing g m
    by None h = refl
    by (Some st) h =
        ap (λ (values : List Value). let v : Visit = record { statement = st; values = values } in v ∷ [])
        (parts-same g vs vss Live (listing st) same (h st refl))

-- ---- runs

-- what comes of a step, the same where what goes on is
onward-same : (forms : FormProgram) (g x : State) (m' : FormMoved) (m : Moved) (go' : FormState → Option Outcome)
    (go : State → Option Outcome) → ((end : _) → outcome_at x end ≡ outcome_at g end)
    → ((s : FormState) (t : State) → m ≡ Moves t → Fits forms s t → go' s ≡ go t) → FitsMove forms m' m
    → form_outcome_from m' x go' ≡ outcome_from m g go
onward-same forms g x (FormMoves s) (Moves t) go' go at h fits = h s t refl fits
onward-same forms g x (FormMoves s) (Halts end) go' go at h fits = absurd fits
onward-same forms g x (FormMoves s) Stuck go' go at h fits = absurd fits
onward-same forms g x (FormHalts end) (Moves t) go' go at h fits = absurd fits
onward-same forms g x (FormHalts end) (Halts other) go' go at h fits =
    ap Some (at end) ∙ ap (λ (e : _). Some (outcome_at g e)) fits
onward-same forms g x (FormHalts end) Stuck go' go at h fits = absurd fits
onward-same forms g x FormStuck (Moves t) go' go at h fits = absurd fits
onward-same forms g x FormStuck (Halts end) go' go at h fits = absurd fits
onward-same forms g x FormStuck Stuck go' go at h fits = refl

turn-same : (turn : Bool) (turns : ℕ) (x g : State) (go' go : ℕ → Option Outcome)
    → ((end : _) → outcome_at x end ≡ outcome_at g end) → ((left : ℕ) → go' left ≡ go left)
    → with_turn turn turns x go' ≡ with_turn turn turns g go
turn-same false turns x g go' go at h = h turns
turn-same true zero x g go' go at h = ap Some (at _)
turn-same true (suc turns) x g go' go at h = h turns

runs-same : (forms : FormProgram) (listing : Listing) (steps turns : ℕ) (s : FormState) (g : State)
    → IsFormProgram forms → ListsLive forms listing → IsState forms.program g → Fits forms s g
    → form_run_within forms listing steps turns s ≡ run_within forms.program listing steps turns g
runs-same forms listing zero turns s g is lists i fits = refl
runs-same forms listing (suc steps) turns s g is lists i fits =
    let program = forms.program in
    let vs = openings-now forms s g in
    let vss = openings forms s.waiting g.waiting in
    let agree : Agree (Before program g.current.function g.point) vs g.current.variables =
    now-agree forms s g is i fits in
    let visits : visits_at listing (over g vs vss) (op_at program g) ≡ visits_at listing g (op_at program g) =
    visits-same g vs vss (Before program g.current.function g.point) listing (op_at program g) agree.same
    (λ st e. lists g.current.function g.point st (g.block, i.placed) e) in
    subst (λ (x : State). with_turn (takes_turn (op_at program x)) turns x
    (λ left. option_map (after_visits (visits_at listing x (op_at program x)))
    (form_outcome_from (form_step forms s) x (form_run_within forms listing steps left)))
    ≡ run_within program listing (suc steps) turns g) (sym (opened-over forms s g fits))
    (turn-same (takes_turn (op_at program g)) turns (over g vs vss) g
    (λ left. option_map (after_visits (visits_at listing (over g vs vss) (op_at program g)))
    (form_outcome_from (form_step forms s) (over g vs vss) (form_run_within forms listing steps left)))
    (λ left. option_map (after_visits (visits_at listing g (op_at program g)))
    (outcome_from (step program g) g (run_within program listing steps left)))
    (λ end. refl)
    (λ left. ap (λ (v : List Visit). option_map (after_visits v)
    (form_outcome_from (form_step forms s) (over g vs vss) (form_run_within forms listing steps left))) visits
    ∙ ap (option_map (after_visits (visits_at listing g (op_at program g))))
    (onward-same forms g (over g vs vss) (form_step forms s) (step program g)
    (form_run_within forms listing steps left) (run_within program listing steps left) (λ end. refl)
    (λ t u e h. runs-same forms listing steps left t u is lists (step_keeps_state program g u is.program i e) h)
    (step_fits forms s g is i fits))))

pub form_keeps_outcome : FormKeepsOutcome
form_keeps_outcome forms listing input turns outcome is lists bytes = (there, here)
  where
    same : (g : State) → first_state forms.program input ≡ Some g → (steps : ℕ)
        → form_run_within forms listing steps turns (first_form g) ≡ run_within forms.program listing steps turns g
    same g e steps =
        let (s, f, fits) = first_fits forms input g is e in
        let first : s ≡ first_form g = same_Some s (first_form g) (sym f ∙ ap (option_map first_form) e) in
        runs-same forms listing steps turns (first_form g) g is lists
        (first_is_state forms.program input g is.program bytes e) (subst (λ (x : FormState). Fits forms x g) first fits)

    here : GraphOutcome forms.program listing input turns outcome → FormOutcome forms listing input turns outcome
    here (g, e, steps, run) = (first_form g, ap (option_map first_form) e, steps, same g e steps ∙ run)

    there : FormOutcome forms listing input turns outcome → GraphOutcome forms.program listing input turns outcome
    there (s, f, steps, run) = by (first_state forms.program input) refl f
      where
        by : (o : Option State) → first_state forms.program input ≡ o → option_map first_form o ≡ Some s
            → GraphOutcome forms.program listing input turns outcome
        by None e f = absurd (none-some s f)
        by (Some g) e f =
            let first : s ≡ first_form g = sym (same_Some (first_form g) s f) in
            let R : FormState → Type 0 = λ x. form_run_within forms listing steps turns x ≡ Some outcome in
            (g, e, steps, sym (same g e steps) ∙ subst R first run)
