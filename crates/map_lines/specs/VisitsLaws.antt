-- What a map finds in a state of the machine that shows one of its program: frames and their functions, and arrays.
use Rattle.std.specs.Prelude.{◌≡◌, ◌<◌, ◌≤◌, ◌⊎◌, ℕ, List, [], ◌∷◌, length, Some}
use Rattle.pcc_base.specs.Outcome.{ArrayName}
use Rattle.c_tree.specs.Program.{Program}
use Rattle.ia32_insn.specs.State as machine
use Rattle.flow_graph.specs.Graphs.{Stands}
use Rattle.flow_graph.specs.States as graph
use Rattle.flow_graph.specs.States.{Activation, Waiting, active_of, flow_at}
use Rattle.flow_graph.specs.WellFormed.{IsState, IsWaiting}
use Rattle.ia32_rows.specs.Placements.{Code, point_address}
use Rattle.ia32_rows.specs.Shows.{IsArrayAt, ReturnsTo, Shows}
use Rattle.ia32_laws.specs.StandingLaws.{IsSelected}
use Rattle.map_text.specs.Maps.{Map}
use Rattle.map_text.specs.Marks.{Frame, MarkAt, array_named, caller_of, frames_of}
use Rattle.map_lines.specs.MapLaws.{HasMap}

-- ---- frames

-- A call's point stands before its return address, and no point of the program between.
abbrev pub NoneBetween : Type 0
NoneBetween =
    (code : Code) (w : Waiting) (younger : Activation) (address h block q : ℕ) → IsSelected code
    → w.activation.function < length code.program.functions → IsWaiting code.program w younger
    → ReturnsTo code w younger.function address → h < length code.program.functions
    → Stands (flow_at code.program h) q block
    → (point_address code w.activation.function w.point < address)
    × ((point_address code h q ≤ point_address code w.activation.function w.point)
    ⊎ (address ≤ point_address code h q))

-- So the function that a map finds by a return address is that of the call that waits.
abbrev pub FunctionsFound : Type 0
FunctionsFound =
    (program : Program) (code : Code) (m : Map) (w : Waiting) (younger : Activation) (address : ℕ)
    → HasMap program code m → w.activation.function < length code.program.functions
    → IsWaiting code.program w younger → ReturnsTo code w younger.function address
    → caller_of m (Some address) ≡ Some w.activation.function

-- the active calls at their frames, the youngest first; the oldest has depth 1
abbrev pub frames_at : List Activation → List ℕ → List Frame
frames_at [] addresses = []
frames_at (a ∷ older) [] = []
frames_at (a ∷ older) (address ∷ addresses) =
    record { address = address; function = Some a.function; depth = length (a ∷ older) } ∷ frames_at older addresses

-- the frames that a map finds at a mark of the current call's function are those of the active calls
abbrev pub FramesFound : Type 0
FramesFound =
    (program : Program) (code : Code) (m : Map) (mark : MarkAt) (input : List ℕ) (g : graph.State) (s : machine.State)
    → HasMap program code m → IsState code.program g → (shown : Shows code input g s)
    → mark.function ≡ g.current.function → frames_of m mark s ≡ frames_at (active_of g) shown.frames

-- ---- arrays

-- the array that a map finds by its address is that array
abbrev pub ArraysFound : Type 0
ArraysFound =
    (program : Program) (code : Code) (m : Map) (input : List ℕ) (g : graph.State) (s : machine.State)
    (array : ArrayName) (word : ℕ) → HasMap program code m → IsState code.program g → (shown : Shows code input g s)
    → IsArrayAt code (active_of g) shown.frames array word
    → array_named m (frames_at (active_of g) shown.frames) word ≡ array
