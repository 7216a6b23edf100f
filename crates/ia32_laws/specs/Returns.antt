-- That a return comes back to its caller's next point, or ends the program.
use Rattle.std.specs.Prelude.{◌≡◌, ℕ, false, List, ◌∷◌, Option, Some}
use Rattle.ia32_insn.specs.State as machine
use Rattle.flow_graph.specs.declared.op.Op.TheVariants as op
use Rattle.flow_graph.specs.Meaning.{act}
use Rattle.flow_graph.specs.States as graph
use Rattle.flow_graph.specs.States.{Waiting, flow_at, op_at, op_of}
use Rattle.flow_graph.specs.WellFormed.{IsState}
use Rattle.ia32_rows.specs.Follows.{Follows}
use Rattle.ia32_rows.specs.Placements.{Code, placement_of}
use Rattle.ia32_rows.specs.Shows.{ReturnsTo, Shows}
use Rattle.ia32_rows.specs.Rows.{row}
use Rattle.ia32_laws.specs.KeepsOps.{RowAt}
use Rattle.ia32_laws.specs.Supports.{IsSupported}
use Rattle.ia32_laws.specs.StandingLaws.{BehindCall}

-- Where the youngest call that waits returns to stand the items behind it.
abbrev pub StandsBehind : Code → graph.State → Type 0
StandsBehind code g =
    (w : Waiting) (waiting : List Waiting) (result : Option ℕ) (words : List ℕ) (address : ℕ)
    → g.waiting ≡ w ∷ waiting
    → op_of code.program w.activation.function w.point ≡ Some (op.Call result g.current.function words)
    → ReturnsTo code w g.current.function address → BehindCall code w result words address

-- From every state that shows one at a return the machine follows the program's step: it comes back to the caller and,
-- through the items behind the call, to its next point with the result in its place; and where the call was that of
-- `main`, to the end with the low byte of the result.
abbrev pub ReturnFollows : Type 0
ReturnFollows =
    (a : Option ℕ) (code : Code) (input : List ℕ) (g : graph.State) (s : machine.State) → IsSupported code
    → IsState code.program g → Shows code input g s → op_at code.program g ≡ Some (op.Return a)
    → RowAt code g
    (row (flow_at code.program g.current.function) (placement_of code g.current.function) g.point (op.Return a)) s
    → StandsBehind code g
    → Follows code input s g false (act code.program g (op.Return a))
