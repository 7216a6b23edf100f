-- How a program of graphs runs, and its outcome in a number of turns.
use Rattle.std.specs.Prelude.{◌≡◌, ◌≢◌, ℕ, zero, suc, Bool, true, false, ℤ, List, [], ◌∷◌, map, Option, Some, None}
use Rattle.std.specs.Prelude.{option_map}
use Rattle.pcc_base.specs.Outcome.{End, Goes, ArrayName, Unknown, Value, Number, Array, Part, Scalar, ArrayOf, IndexOf}
use Rattle.pcc_base.specs.Outcome.{Visit, Listing, Outcome, after_visits}
use Rattle.flow_graph.specs.declared.op.Op.{Op}
use Rattle.flow_graph.specs.Kinds.{is_turn, marked}
use Rattle.flow_graph.specs.Meaning.{Moved, Moves, Halts, Stuck, step}
use Rattle.flow_graph.specs.States.{GraphProgram, State, op_at, entry_of, first_state_at, number_at, array_at}

-- ---- the states

-- the state before the first step; `main` has a first point
abbrev pub first_state : GraphProgram → List ℕ → Option State
first_state program input = option_map (first_state_at program input) (entry_of program program.main 0)

-- what comes of the next state, where there is one
abbrev pub from_state : Moved → (State → Option State) → Option State
from_state (Moves t) go = go t
from_state (Halts end) go = None
from_state Stuck go = None

-- the state after k steps, where there was no end before
abbrev pub state_after : GraphProgram → ℕ → State → Option State
state_after program zero s = Some s
state_after program (suc k) s = from_state (step program s) (state_after program k)

-- the state after k steps over an input
abbrev pub GraphAt : GraphProgram → List ℕ → ℕ → State → Type 0
GraphAt program input k t = (s : State) × (first_state program input ≡ Some s) × (state_after program k s ≡ Some t)

-- every state that comes has a next one or an end
abbrev pub IsNeverStuck : GraphProgram → Type 0
IsNeverStuck program = (input : List ℕ) (k : ℕ) (t : State) → GraphAt program input k t → step program t ≢ Stuck

-- ---- visits: here a part goes by its variable in the graph

-- where a variable holds an array, as no local that is a scalar or an index does, its number is unknown
abbrev pub number_or_unknown : Option ℤ → Value
number_or_unknown None = Array Unknown
number_or_unknown (Some n) = Number n

abbrev pub array_or_unknown : Option ArrayName → ArrayName
array_or_unknown None = Unknown
array_or_unknown (Some a) = a

abbrev pub part_value : State → Part → Value
part_value s (Scalar v) = number_or_unknown (number_at s v)
part_value s (ArrayOf v) = Array (array_or_unknown (array_at s v))
part_value s (IndexOf v) = number_or_unknown (number_at s v)

-- a visit of the statement, where there is one, with the values before it
abbrev pub visits_of : Listing → State → Option ℕ → List Visit
visits_of listing s None = []
visits_of listing s (Some statement) = record {
  statement = statement;
  values = map (part_value s) (listing statement);
} ∷ []

-- the visit of a mark
abbrev pub visits_at : Listing → State → Option Op → List Visit
visits_at listing s None = []
visits_at listing s (Some op) = visits_of listing s (marked op)

-- ---- the outcome

abbrev pub takes_turn : Option Op → Bool
takes_turn None = false
takes_turn (Some op) = is_turn op

abbrev pub outcome_at : State → End → Outcome
outcome_at s end = record { visits = []; taken = s.taken; written = s.written; end = end }

-- A turn is taken; where none is left, the program still goes.
abbrev pub with_turn : Bool → ℕ → State → (ℕ → Option Outcome) → Option Outcome
with_turn false turns s go = go turns
with_turn true zero s go = Some (outcome_at s Goes)
with_turn true (suc turns) s go = go turns

abbrev pub outcome_from : Moved → State → (State → Option Outcome) → Option Outcome
outcome_from (Moves t) s go = go t
outcome_from (Halts end) s go = Some (outcome_at s end)
outcome_from Stuck s go = None

-- the outcome in so many turns, where at most so many steps lead to the end, or to the turn that is one too
-- many
abbrev pub run_within : GraphProgram → Listing → ℕ → ℕ → State → Option Outcome
run_within program listing zero turns s = None
run_within program listing (suc steps) turns s =
    with_turn (takes_turn (op_at program s)) turns s
    (λ left. option_map (after_visits (visits_at listing s (op_at program s)))
    (outcome_from (step program s) s (run_within program listing steps left)))

-- this is the outcome of the program over an input in so many turns
abbrev pub GraphOutcome : GraphProgram → Listing → List ℕ → ℕ → Outcome → Type 0
GraphOutcome program listing input turns outcome =
    (s : State) × (first_state program input ≡ Some s) × (steps : ℕ)
    × (run_within program listing steps turns s ≡ Some outcome)

-- ---- laws

-- a program has one outcome over an input in so many turns
abbrev pub OneOutcome : Type 0
OneOutcome =
    (program : GraphProgram) (listing : Listing) (input : List ℕ) (turns : ℕ) (a b : Outcome)
    → GraphOutcome program listing input turns a → GraphOutcome program listing input turns b → a ≡ b

-- after so many steps there is one state
abbrev pub OneState : Type 0
OneState = (program : GraphProgram) (input : List ℕ) (k : ℕ) (s t : State) → GraphAt program input k s
    → GraphAt program input k t → s ≡ t

-- a program that has an outcome over each input in each number of turns is never stuck
abbrev pub NeverStuckWithOutcomes : Type 0
NeverStuckWithOutcomes =
    (program : GraphProgram) (listing : Listing)
    → ((input : List ℕ) (turns : ℕ) → (outcome : Outcome) × GraphOutcome program listing input turns outcome)
    → IsNeverStuck program
