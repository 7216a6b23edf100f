-- What it means that code does what its program of graphs does: from every state of the machine that shows a state of
-- the program the machine comes to one that shows the next, or has its end; so a whole run has the program's outcome.
use Rattle.std.specs.Prelude.{◌≡◌, ◌≤◌, ⊤, ℕ, Bool, true, false, List, [], Option, Some, None}
use Rattle.pcc_base.specs.Bytes.{AreBytes}
use Rattle.pcc_base.specs.Outcome.{AreKnown, End, Visit, Listing, Outcome}
use Rattle.ia32_insn.specs.State as machine
use Rattle.ia32_insn.specs.Items.{text_state}
use Rattle.ia32_insn.specs.Meaning as moved
use Rattle.ia32_insn.specs.Runs.{Steps, Runs}
use Rattle.flow_graph.specs.declared.op.Op.{Op}
use Rattle.flow_graph.specs.declared.op.Op.TheVariants as op
use Rattle.flow_graph.specs.Meaning.{Moved, Moves, Halts, Stuck, step}
use Rattle.flow_graph.specs.Running.{GraphAt, GraphOutcome, first_state, visits_at}
use Rattle.flow_graph.specs.Shapes.{About, NothingElse, TheNumber, TheWord, TheObject, TheFunction, TheStatement}
use Rattle.flow_graph.specs.Shapes.{TheTurn, shape}
use Rattle.flow_graph.specs.States as graph
use Rattle.flow_graph.specs.States.{op_at}
use Rattle.flow_graph.specs.WellFormed.{IsGraphProgram, IsState}
use Rattle.ia32_rows.specs.Paths.{Comes, IsClear}
use Rattle.ia32_rows.specs.Placements.{Code, objects_of}
use Rattle.ia32_rows.specs.Shows.{Shows}

-- ---- step by step

-- steps to a state that shows one of the program; none of them is at a NOP
abbrev pub ComesTo : Code → List ℕ → machine.State → graph.State → Type 0
ComesTo code input s g = (t : machine.State) × Comes code.text s t × Shows code input g t

-- one step, and then such steps
abbrev pub StepsTo : Code → List ℕ → machine.State → graph.State → Type 0
StepsTo code input s g = (t : machine.State) × Steps s (moved.Moves t) × ComesTo code input t g

-- steps to the end, none of them at a NOP, with the same bytes taken and written
abbrev pub ComesToEnd : Code → machine.State → graph.State → End → Type 0
ComesToEnd code s g end =
    (t : machine.State) × Comes code.text s t × IsClear code.text t.eip × Steps t (moved.Halts end)
    × (t.taken ≡ g.taken) × (t.written ≡ g.written)

abbrev pub about_nop : About → Bool
about_nop NothingElse = false
about_nop (TheNumber n) = false
about_nop (TheWord k) = false
about_nop (TheObject k) = false
about_nop (TheFunction f) = false
about_nop (TheStatement s) = true
about_nop TheTurn = true

-- a mark and a turn are a NOP of their own
abbrev pub is_nop : Option Op → Bool
is_nop None = false
is_nop (Some op) = about_nop (shape op).about

-- The machine follows a step of the program: by one step at a NOP and then by steps at none, or else by steps of which
-- none is at one.
abbrev pub Follows : Code → List ℕ → machine.State → graph.State → Bool → Moved → Type 0
Follows code input s g true (Moves h) = StepsTo code input s h
Follows code input s g false (Moves h) = ComesTo code input s h
Follows code input s g nop (Halts end) = ComesToEnd code s g end
Follows code input s g nop Stuck = ⊤

-- from the first state over a list of bytes the machine comes to one that shows the program's first
abbrev pub Starts : Code → Type 0
Starts code =
    (input : List ℕ) (g : graph.State) → AreBytes input → first_state code.program input ≡ Some g
    → ComesTo code input (text_state code.text (objects_of code.program) input) g

-- from every state that shows one of the program the machine follows the program's step
abbrev pub FollowsAll : Code → Type 0
FollowsAll code =
    (input : List ℕ) (g : graph.State) (s : machine.State) → IsState code.program g → Shows code input g s
    → Follows code input s g (is_nop (op_at code.program g)) (step code.program g)

-- ---- whole runs

-- What is visited by a step of the machine is what the listing shows at marks that the program comes to, after some
-- number k of steps, where that is known; elsewhere nothing is visited.
pub record ShowsVisits (code : Code) (listing : Listing) (visits : machine.State → List Visit) : Type 0 where
  pub marks : (input : List ℕ) (k : ℕ) (g : graph.State) (s : machine.State) (statement : ℕ) → AreBytes input
      → GraphAt code.program input k g → Shows code input g s → op_at code.program g ≡ Some (op.Mark statement)
      → AreKnown (visits_at listing g (Some (op.Mark statement)))
      → visits s ≡ visits_at listing g (Some (op.Mark statement))
  pub turns : (input : List ℕ) (g : graph.State) (s : machine.State) → Shows code input g s
      → op_at code.program g ≡ Some op.Turn → visits s ≡ []
  pub elsewhere : (s : machine.State) → IsClear code.text s.eip → visits s ≡ []

-- for every list of bytes and number of turns there are steps, at least as many, with the program's outcome
abbrev pub RunsAs : Code → Type 0
RunsAs code =
    (listing : Listing) (visits : machine.State → List Visit) → ShowsVisits code listing visits
    → (input : List ℕ) (turns : ℕ) (outcome : Outcome) → AreBytes input → AreKnown outcome.visits
    → GraphOutcome code.program listing input turns outcome
    → (m : ℕ) × (turns ≤ m) × Runs visits m (text_state code.text (objects_of code.program) input) outcome

-- the code does what the program of graphs does
pub record IsRightCode (code : Code) : Type 0 where
  pub starts : Starts code
  pub follows : FollowsAll code
  pub runs : RunsAs code

-- ---- law

-- code that starts as its program does, and follows it step by step, has its outcomes
abbrev pub WholeRuns : Type 0
WholeRuns = (code : Code) → IsGraphProgram code.program → Starts code → FollowsAll code → RunsAs code
