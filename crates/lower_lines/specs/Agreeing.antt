-- Whether the graphs of a program have its outcome, over an input and in so many turns: both are run.
use Rattle.std.specs.Prelude.{◌≡◌, ℕ, List, Option, Some, None}
use Rattle.pcc_base.specs.Outcome.{Listing, Outcome}
use Rattle.c_tree.specs.Evaluation.{source_outcome}
use Rattle.c_tree.specs.Program.{Program}
use Rattle.flow_graph.specs.Running.{first_state, run_within}
use Rattle.flow_graph.specs.States.{GraphProgram, State}
use Rattle.lower_lines.specs.Programs.{lowered}
use Rattle.lower_lines.specs.Shown.{all_parts, variables_shown}

-- the outcome from a state, if there is one, in at most so many steps
abbrev pub run_from : GraphProgram → Listing → ℕ → ℕ → Option State → Option Outcome
run_from program listing steps turns None = None
run_from program listing steps turns (Some s) = run_within program listing steps turns s

-- the outcome of the program's graphs, with every part of every local at each mark
abbrev pub graphs_outcome : Program → List ℕ → ℕ → ℕ → Option Outcome
graphs_outcome program input turns steps = run_from (lowered program)
    (variables_shown program (all_parts program)) steps turns (first_state (lowered program) input)

-- both outcomes are the same
abbrev pub Agrees : Program → List ℕ → ℕ → Type 0
Agrees program input turns =
    graphs_outcome program input turns 4000 ≡ Some (source_outcome program (all_parts program) input turns)
