-- How an elementary form of a program of graphs runs, and its outcome in a number of turns.
use Rattle.std.specs.Prelude.{◌≡◌, ℕ, zero, suc, List, [], Option, Some, None, option_map}
use Rattle.pcc_base.specs.Outcome.{Listing, Outcome, after_visits}
use Rattle.flow_graph.specs.Running.{first_state, outcome_at, takes_turn, visits_at, with_turn}
use Rattle.flow_graph.specs.States.{State, op_at}
use Rattle.flow_liveness.specs.Forms.{FormProgram, FormMoved, FormMoves, FormHalts, FormStuck, FormState, form_state}
use Rattle.flow_liveness.specs.Forms.{form_step, no_values, opened, with_names}

abbrev pub first_form : State → FormState
first_form s = form_state s (with_names no_values s.current) []

-- the state before the first step
abbrev pub first_form_state : FormProgram → List ℕ → Option FormState
first_form_state forms input = option_map first_form (first_state forms.program input)

abbrev pub form_outcome_from : FormMoved → State → (FormState → Option Outcome) → Option Outcome
form_outcome_from (FormMoves t) s go = go t
form_outcome_from (FormHalts end) s go = Some (outcome_at s end)
form_outcome_from FormStuck s go = None

-- the outcome in so many turns, where at most so many steps lead to the end, or to the turn that is one too
-- many; a visit shows the values of names before its point
abbrev pub form_run_within : FormProgram → Listing → ℕ → ℕ → FormState → Option Outcome
form_run_within forms listing zero turns s = None
form_run_within forms listing (suc steps) turns s =
    with_turn (takes_turn (op_at forms.program (opened forms s))) turns (opened forms s)
    (λ left. option_map (after_visits (visits_at listing (opened forms s) (op_at forms.program (opened forms s))))
    (form_outcome_from (form_step forms s) (opened forms s) (form_run_within forms listing steps left)))

-- this is the outcome of the form over an input in so many turns
abbrev pub FormOutcome : FormProgram → Listing → List ℕ → ℕ → Outcome → Type 0
FormOutcome forms listing input turns outcome =
    (s : FormState) × (first_form_state forms input ≡ Some s) × (steps : ℕ)
    × (form_run_within forms listing steps turns s ≡ Some outcome)
