-- That a map is true at every point: along every run of a program's graphs the machine, which runs the image, comes to a
-- state that shows each state of theirs, in order.
use Rattle.std.specs.Prelude.{◌≡◌, ◌<◌, ◌≤◌, ℕ, suc, true, List, length}
use Rattle.pcc_base.specs.Bytes.{AreBytes}
use Rattle.flow_graph.specs.Running.{GraphAt}
use Rattle.flow_graph.specs.States as graph
use Rattle.flow_graph.specs.States.{op_at}
use Rattle.ia32_insn.specs.State as machine
use Rattle.ia32_machine.specs.First.{First}
use Rattle.ia32_rows.specs.Follows.{is_nop}
use Rattle.ia32_rows.specs.Paths.{Path}
use Rattle.ia32_rows.specs.Placements.{Code}
use Rattle.ia32_rows.specs.Shows.{Shows}

-- after m steps from the first state of these bytes the machine shows this state of the graphs: its variables, arrays and
-- waiting calls are in the places and at the addresses that the code has
abbrev pub IsShownAfter : List ℕ → Code → List ℕ → graph.State → ℕ → Type 0
IsShownAfter image code input g m =
    (first s : machine.State) × (addresses : List ℕ) × First image input first × Path addresses first s
    × (length addresses ≡ m) × Shows code input g s

-- Numbers of machine steps for the states of the graphs, from the first to the one that is k steps on: after so many steps
-- the machine shows each, no number is less than the one before, and at a mark and a turn the next one is greater.
pub record AreShown (image : List ℕ) (code : Code) (input : List ℕ) (k : ℕ) : Type 0 where
  pub steps : ℕ → ℕ
  pub shown : (j : ℕ) (g : graph.State) → j ≤ k → GraphAt code.program input j g
      → IsShownAfter image code input g (steps j)
  pub never_fall : (j : ℕ) → j < k → steps j ≤ steps (suc j)
  pub rise : (j : ℕ) (g : graph.State) → j < k → GraphAt code.program input j g
      → is_nop (op_at code.program g) ≡ true → steps j < steps (suc j)

-- so for every list of bytes as the input and every number of steps of the graphs that comes before an end
abbrev pub IsTrueEverywhere : List ℕ → Code → Type 0
IsTrueEverywhere image code =
    (input : List ℕ) (k : ℕ) (g : graph.State) → AreBytes input → GraphAt code.program input k g
    → AreShown image code input k
