-- What an elementary form of a program of graphs means: one step from a state. It goes through the step of the graphs
-- themselves, with the values of variables read off their names and written back to them.
use Rattle.std.specs.Prelude.{ℕ, ◌<◌, ℤ, pos, List, [], ◌∷◌, map, length, slice_index_or}
use Rattle.pcc_base.specs.Outcome.{End, Value, Number}
use Rattle.flow_graph.specs.Lives.{AreLive, Lives, nothing_live}
use Rattle.flow_graph.specs.Meaning.{Moved, Moves, Halts, Stuck, step}
use Rattle.flow_graph.specs.States.{Activation, GraphProgram, State, Waiting, flow_at, op_at}
use Rattle.flow_graph.specs.WellFormed.{IsGraphProgram}
use Rattle.flow_liveness.specs.Names.{Names, name_after, name_before, opened_values, passed, waited}
use Rattle.flow_liveness.specs.Passages.{Passage, Stays, Begins, Ends, passage_of}

-- a program of graphs, with the live sets of each
pub record FormProgram : Type 0 where
  pub program : GraphProgram
  pub lives : List Lives

abbrev pub lives_at : FormProgram → ℕ → Lives
lives_at forms f = slice_index_or forms.lives f (nothing_live 0)

-- a program of graphs, whose live sets are those of their paths
pub record IsFormProgram (forms : FormProgram) : Type 0 where
  pub program : IsGraphProgram forms.program
  pub lives : (f : ℕ) → f < length forms.program.functions → AreLive (flow_at forms.program f) (lives_at forms f)

-- ---- states: those of the graphs, with names in place of variables

pub record FormCall : Type 0 where
  pub function : ℕ
  pub arguments : List Value
  pub names : Names
  pub arrays : List (List ℤ)

-- a call that waits for another, which its op at this point made
pub record FormWaiting : Type 0 where
  pub call : FormCall
  pub block : ℕ
  pub point : ℕ

pub record FormState : Type 0 where
  pub block : ℕ
  pub point : ℕ
  pub current : FormCall
  pub waiting : List FormWaiting
  pub objects : List (List ℤ)
  pub left : List ℕ
  pub taken : ℕ
  pub written : List ℕ

-- ---- from names to variables

abbrev pub with_variables : List Value → FormCall → Activation
with_variables variables call = record {
  function = call.function;
  arguments = call.arguments;
  variables = variables;
  arrays = call.arrays;
}

-- what a call's variables hold before a point
abbrev pub variables_before : FormProgram → ℕ → FormCall → List Value
variables_before forms point call = opened_values (flow_at forms.program call.function)
    (name_before (flow_at forms.program call.function) (lives_at forms call.function) point) call.names

-- what they hold after a point
abbrev pub variables_after : FormProgram → ℕ → FormCall → List Value
variables_after forms point call = opened_values (flow_at forms.program call.function)
    (name_after (flow_at forms.program call.function) (lives_at forms call.function) point) call.names

-- a waiting call stands at its point, and what it goes on with is behind it
abbrev pub opened_waiting : FormProgram → FormWaiting → Waiting
opened_waiting forms w = record {
  activation = with_variables (variables_after forms w.point w.call) w.call;
  block = w.block;
  point = w.point;
}

-- the state of the graphs
abbrev pub opened : FormProgram → FormState → State
opened forms s = record {
  block = s.block;
  point = s.point;
  current = with_variables (variables_before forms s.point s.current) s.current;
  waiting = map (opened_waiting forms) s.waiting;
  objects = s.objects;
  left = s.left;
  taken = s.taken;
  written = s.written;
}

-- ---- from variables to names

abbrev pub with_names : Names → Activation → FormCall
with_names names a = record { function = a.function; arguments = a.arguments; names = names; arrays = a.arrays }

-- at the start of a call every name has 0, as every variable has
abbrev pub no_values : Names
no_values name = Number (pos 0)

-- calls that go on waiting keep their names
abbrev pub kept_waiting : List FormWaiting → List Waiting → List FormWaiting
kept_waiting [] waiting = []
kept_waiting (w ∷ ws) [] = []
kept_waiting (w ∷ ws) (u ∷ waiting) =
    record { call = with_names w.call.names u.activation; block = u.block; point = u.point } ∷ kept_waiting ws waiting

-- a call that begins to wait at its point
abbrev pub begun_waiting : FormProgram → FormState → List Waiting → List FormWaiting
begun_waiting forms s [] = []
begun_waiting forms s (u ∷ waiting) =
    record {
      call = with_names
          (waited (flow_at forms.program u.activation.function) (lives_at forms u.activation.function)
          u.point u.activation.variables s.current.names) u.activation;
      block = u.block;
      point = u.point;
    } ∷ kept_waiting s.waiting waiting

abbrev pub form_state : State → FormCall → List FormWaiting → FormState
form_state t current waiting = record {
  block = t.block;
  point = t.point;
  current = current;
  waiting = waiting;
  objects = t.objects;
  left = t.left;
  taken = t.taken;
  written = t.written;
}

-- the call that runs has come from a point to that of the state, from these names
abbrev pub passed_state : FormProgram → ℕ → Names → List FormWaiting → State → FormState
passed_state forms point names waiting t = form_state t
    (with_names
    (passed (flow_at forms.program t.current.function) (lives_at forms t.current.function)
    point t.point t.current.variables names) t.current)
    (kept_waiting waiting t.waiting)

-- a call has ended, and the one that waited for it has come from its call
abbrev pub returned_state : FormProgram → FormState → List FormWaiting → State → FormState
returned_state forms s [] t = passed_state forms s.point s.current.names [] t
returned_state forms s (w ∷ waiting) t = passed_state forms w.point w.call.names waiting t

-- the state after a step, which has led the graphs to this state
abbrev pub next_state : FormProgram → FormState → Passage → State → FormState
next_state forms s Stays t = passed_state forms s.point s.current.names s.waiting t
next_state forms s Begins t = form_state t (with_names no_values t.current) (begun_waiting forms s t.waiting)
next_state forms s Ends t = returned_state forms s s.waiting t

-- ---- the step

pub data FormMoved : Type 0 where
  FormMoves : (state : FormState) → FormMoved
  FormHalts : (end : End) → FormMoved
  FormStuck : FormMoved

abbrev pub named_move : FormProgram → FormState → Passage → Moved → FormMoved
named_move forms s passage (Moves t) = FormMoves (next_state forms s passage t)
named_move forms s passage (Halts end) = FormHalts end
named_move forms s passage Stuck = FormStuck

-- A step opens the names before the point into variables, takes the graphs' step, settles the names after the point by
-- the variables, and copies those before the next point from them, all at once.
abbrev pub form_step : FormProgram → FormState → FormMoved
form_step forms s = named_move forms s (passage_of (op_at forms.program (opened forms s)))
    (step forms.program (opened forms s))
