-- Laws on what is live in the graphs of typed programs.
use Rattle.std.specs.Prelude.{◌≡◌, ℕ, List, [], slice_get, Some}
use Rattle.c_tree.specs.Program.{Function, Program}
use Rattle.c_tree.specs.WellTyped.{WellTyped}
use Rattle.flow_graph.specs.Graphs.{Flow}
use Rattle.flow_graph.specs.Liveness.{BeginsWith, IsLiveBefore}
use Rattle.flow_graph.specs.States.{GraphProgram}
use Rattle.lower_lines.specs.Programs.{lines_of_function, lowered}
use Rattle.lower_lines.specs.Variables.{local_variables}
use Rattle.lower_laws.specs.Flows.{Flows}
use Rattle.lower_laws.specs.LiveLaws.{AllFixedDie, NoneAtMarks}
use Rattle.lower_laws.specs.Settled.{context_in}
use Rattle.lower_laws.specs.Declared.{IsDeclaredFirst}

-- The lines of every typed function have sets: each temporary is written before it is used, fixed operands die at their
-- ops and are no other operand, and at a mark there are locals alone.
abbrev pub FunctionsSettle : Type 0
FunctionsSettle = (p : Program) → WellTyped p → (k : ℕ) (f : Function) → slice_get p.functions k ≡ Some f
    → (at_block : ℕ → List ℕ) × Flows (local_variables f) at_block [] (lines_of_function (context_in p f)) []

-- What is live in the graphs of a program: in that of each function no temporary is live at a mark, and fixed operands
-- die at their ops and are no other operand of them.
abbrev pub HaveLiveness : Program → GraphProgram → Type 0
HaveLiveness program graphs =
    (k : ℕ) (f : Function) (flow : Flow) → slice_get program.functions k ≡ Some f
    → slice_get graphs.functions k ≡ Some flow → NoneAtMarks (local_variables f) flow × AllFixedDie flow

-- the graphs of every typed program are so
abbrev pub LivenessHolds : Type 0
LivenessHolds = (p : Program) → WellTyped p → HaveLiveness p (lowered p)

-- no variable is live at the first point of a function
abbrev pub NothingLiveFirst : Program → GraphProgram → Type 0
NothingLiveFirst program graphs =
    (k : ℕ) (f : Function) (flow : Flow) → slice_get program.functions k ≡ Some f
    → slice_get graphs.functions k ≡ Some flow → (point v : ℕ) → BeginsWith flow 0 point → IsLiveBefore flow v point → ⊥

-- the graphs of a typed program are so, where each local is declared before it is named
abbrev pub FirstPointsHold : Type 0
FirstPointsHold = (p : Program) → WellTyped p → IsDeclaredFirst p → NothingLiveFirst p (lowered p)
