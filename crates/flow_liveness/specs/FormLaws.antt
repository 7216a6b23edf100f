-- When a state of an elementary form fits one of its graphs, and the laws that the form keeps their meaning.
use Rattle.std.specs.Prelude.{◌≡◌, ◌<◌, ◌↔◌, ⊤, ℕ, List, [], ◌∷◌, Some, slice_get}
use Rattle.std.specs.List.{All}
use Rattle.pcc_base.specs.Outcome.{Listing, Outcome, Part, Scalar, ArrayOf, IndexOf}
use Rattle.flow_graph.specs.declared.op.Op.TheVariants as op
use Rattle.flow_graph.specs.Graphs.{Flow, IsPlaced}
use Rattle.flow_graph.specs.Liveness.{IsDefinedAt, IsLiveBefore}
use Rattle.flow_graph.specs.Lives.{Lives}
use Rattle.flow_graph.specs.Meaning.{Moved, Moves, Halts, Stuck, step}
use Rattle.flow_graph.specs.Running.{GraphOutcome, first_state}
use Rattle.flow_graph.specs.States.{Activation, State, Waiting, flow_at, op_of}
use Rattle.flow_graph.specs.WellFormed.{IsState}
use Rattle.pcc_base.specs.Bytes.{AreBytes}
use Rattle.flow_liveness.specs.FormRuns.{FormOutcome, first_form_state}
use Rattle.flow_liveness.specs.Forms.{FormCall, FormMoved, FormMoves, FormHalts, FormStuck, FormProgram, FormState}
use Rattle.flow_liveness.specs.Forms.{FormWaiting, IsFormProgram, form_step, lives_at}
use Rattle.flow_liveness.specs.Names.{Names, name_after, name_before}

-- ---- fitting states

-- a call of the form is one of the graph but for its variables
pub record IsSameCall (call : FormCall) (a : Activation) : Type 0 where
  pub function : call.function ≡ a.function
  pub arguments : call.arguments ≡ a.arguments
  pub arrays : call.arrays ≡ a.arrays

-- the names before the point have the values of their variables
abbrev pub HoldBefore : FormProgram → ℕ → Names → Activation → Type 0
HoldBefore forms point names a =
    (v name : ℕ) → name_before (flow_at forms.program a.function) (lives_at forms a.function) point v ≡ Some name
    → slice_get a.variables v ≡ Some (names name)

-- the names after the point of a waiting call have the values of their variables, other than that of its result
abbrev pub HoldWaiting : FormProgram → ℕ → Names → Activation → Type 0
HoldWaiting forms point names a =
    (v name : ℕ) → name_after (flow_at forms.program a.function) (lives_at forms a.function) point v ≡ Some name
    → (IsDefinedAt (flow_at forms.program a.function) v point → ⊥)
    → slice_get a.variables v ≡ Some (names name)

pub record IsSameWaiting (forms : FormProgram) (w : FormWaiting) (u : Waiting) : Type 0 where
  pub block : w.block ≡ u.block
  pub point : w.point ≡ u.point
  pub call : IsSameCall w.call u.activation
  pub holds : HoldWaiting forms u.point w.call.names u.activation

abbrev pub AreSameWaiting : FormProgram → List FormWaiting → List Waiting → Type 0
AreSameWaiting forms [] [] = ⊤
AreSameWaiting forms [] (u ∷ us) = ⊥
AreSameWaiting forms (w ∷ ws) [] = ⊥
AreSameWaiting forms (w ∷ ws) (u ∷ us) = IsSameWaiting forms w u × AreSameWaiting forms ws us

-- a state of the form fits one of the graphs
pub record Fits (forms : FormProgram) (s : FormState) (g : State) : Type 0 where
  pub block : s.block ≡ g.block
  pub point : s.point ≡ g.point
  pub call : IsSameCall s.current g.current
  pub holds : HoldBefore forms g.point s.current.names g.current
  pub waiting : AreSameWaiting forms s.waiting g.waiting
  pub objects : s.objects ≡ g.objects
  pub left : s.left ≡ g.left
  pub taken : s.taken ≡ g.taken
  pub written : s.written ≡ g.written

-- a step of the form leads where that of the graphs leads: to a state that fits, to the same end, or nowhere
abbrev pub FitsMove : FormProgram → FormMoved → Moved → Type 0
FitsMove forms (FormMoves s) (Moves g) = Fits forms s g
FitsMove forms (FormMoves s) (Halts end) = ⊥
FitsMove forms (FormMoves s) Stuck = ⊥
FitsMove forms (FormHalts end) (Moves g) = ⊥
FitsMove forms (FormHalts end) (Halts other) = end ≡ other
FitsMove forms (FormHalts end) Stuck = ⊥
FitsMove forms FormStuck (Moves g) = ⊥
FitsMove forms FormStuck (Halts end) = ⊥
FitsMove forms FormStuck Stuck = ⊤

-- ---- listings of live variables

abbrev pub variable_of : Part → ℕ
variable_of (Scalar v) = v
variable_of (ArrayOf v) = v
variable_of (IndexOf v) = v

-- the variables that a listing shows of a statement are live before each mark of it: others have no name there
abbrev pub ListsLive : FormProgram → Listing → Type 0
ListsLive forms listing =
    (f point statement : ℕ) → IsPlaced (flow_at forms.program f) point
    → op_of forms.program f point ≡ Some (op.Mark statement)
    → All (λ part. IsLiveBefore (flow_at forms.program f) (variable_of part) point) (listing statement)

-- ---- laws

-- the first state of the form fits that of the graphs
abbrev pub FirstFits : Type 0
FirstFits =
    (forms : FormProgram) (input : List ℕ) (g : State) → IsFormProgram forms
    → first_state forms.program input ≡ Some g
    → (s : FormState) × (first_form_state forms input ≡ Some s) × Fits forms s g

-- from a state that fits a step of the form leads to one that fits the graphs' next state, or to their end
abbrev pub StepFits : Type 0
StepFits =
    (forms : FormProgram) (s : FormState) (g : State) → IsFormProgram forms → IsState forms.program g → Fits forms s g
    → FitsMove forms (form_step forms s) (step forms.program g)

-- the form keeps the graphs' meaning: it has the same outcomes over each input of bytes
abbrev pub FormKeepsOutcome : Type 0
FormKeepsOutcome =
    (forms : FormProgram) (listing : Listing) (input : List ℕ) (turns : ℕ) (outcome : Outcome) → IsFormProgram forms
    → ListsLive forms listing → AreBytes input
    → FormOutcome forms listing input turns outcome ↔ GraphOutcome forms.program listing input turns outcome

-- a name stands for one variable at one point
abbrev pub OneBefore : Type 0
OneBefore =
    (flow : Flow) (lives : Lives) (p q v w name : ℕ) → v < 0x1_0000_0000 → w < 0x1_0000_0000
    → name_before flow lives p v ≡ Some name → name_before flow lives q w ≡ Some name → (p ≡ q) × (v ≡ w)

abbrev pub OneAfter : Type 0
OneAfter =
    (flow : Flow) (lives : Lives) (p q v w name : ℕ) → v < 0x1_0000_0000 → w < 0x1_0000_0000
    → name_after flow lives p v ≡ Some name → name_after flow lives q w ≡ Some name → (p ≡ q) × (v ≡ w)

-- and none before a point is one after a point
abbrev pub BeforeIsNotAfter : Type 0
BeforeIsNotAfter =
    (flow : Flow) (lives : Lives) (p q v w name : ℕ)
    → name_before flow lives p v ≡ Some name → name_after flow lives q w ≡ Some name → ⊥
