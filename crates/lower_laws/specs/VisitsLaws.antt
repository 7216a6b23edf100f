-- What visits of a typed program show.
use Rattle.std.specs.Prelude.{ℕ, List}
use Rattle.pcc_base.specs.Outcome.{AreKnown, Listing, Outcome}
use Rattle.c_tree.specs.Evaluation.{source_outcome}
use Rattle.c_tree.specs.Program.{Program}
use Rattle.c_tree.specs.WellTyped.{WellTyped}
use Rattle.flow_graph.specs.Running.{GraphOutcome}
use Rattle.flow_graph.specs.States.{GraphProgram}
use Rattle.lower_lines.specs.Lowering.{KeepsOutcome}
use Rattle.lower_lines.specs.Shown.{ListsLocals, variables_shown}

-- Whichever parts of locals a listing names, over every input and in any number of turns each value that is shown is
-- known: a pointer's array is null, or is there.
abbrev pub VisitsAreKnown : Type 0
VisitsAreKnown =
    (p : Program) (listing : Listing) → WellTyped p → ListsLocals p listing → (input : List ℕ) (n : ℕ)
    → AreKnown (source_outcome p listing input n).visits

-- So is each that graphs show at their marks which keep the outcome of the program.
abbrev pub GraphVisitsAreKnown : Type 0
GraphVisitsAreKnown =
    (p : Program) (graphs : GraphProgram) (listing : Listing) → WellTyped p → KeepsOutcome p graphs
    → ListsLocals p listing → (input : List ℕ) (turns : ℕ) (outcome : Outcome)
    → GraphOutcome graphs (variables_shown p listing) input turns outcome → AreKnown outcome.visits
