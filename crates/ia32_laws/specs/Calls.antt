-- That the row of a call comes to the called function's first item.
use Rattle.std.specs.Prelude.{◌≡◌, ℕ, List, Option, Some, ⊤}
use Rattle.ia32_insn.specs.State as machine
use Rattle.flow_graph.specs.declared.op.Op.TheVariants as op
use Rattle.flow_graph.specs.Meaning.{Moved, Moves, Halts, Stuck, act}
use Rattle.flow_graph.specs.States as graph
use Rattle.flow_graph.specs.States.{op_at}
use Rattle.flow_graph.specs.WellFormed.{IsState}
use Rattle.ia32_rows.specs.Follows.{ComesToEnd}
use Rattle.ia32_rows.specs.Paths.{Comes}
use Rattle.ia32_rows.specs.Placements.{Code}
use Rattle.ia32_rows.specs.Shows.{Shows}
use Rattle.ia32_laws.specs.Supports.{IsSupported}
use Rattle.ia32_laws.specs.StandingLaws.{CallAt, places_before}
use Rattle.ia32_laws.specs.Called.{Called}

-- The machine comes to the first item of a call that has begun, or has the end that the program has.
abbrev pub ComesCalled : Code → List ℕ → machine.State → graph.State → Moved → Type 0
ComesCalled code input s g (Moves h) = (t : machine.State) × Comes code.text s t × Called code input h t
ComesCalled code input s g (Halts end) = ComesToEnd code s g end
ComesCalled code input s g Stuck = ⊤

-- Where the items of a call are ready, up to the call itself, the machine comes through them to the function, with the
-- call begun; where too many are active, it comes to the trap of a failed check.
abbrev pub CallComes : Type 0
CallComes =
    (d : Option ℕ) (f : ℕ) (arguments : List ℕ) (code : Code) (input : List ℕ) (g : graph.State) (s : machine.State)
    → IsSupported code → IsState code.program g → Shows code input g s
    → op_at code.program g ≡ Some (op.Call d f arguments)
    → CallAt code (record { activation = g.current; block = g.block; point = g.point }) f
    (places_before code g.current.function g.point arguments) s
    → ComesCalled code input s g (act code.program g (op.Call d f arguments))
