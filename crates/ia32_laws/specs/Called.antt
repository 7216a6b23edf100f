-- The state in which a function begins: the machine is at its first item, and the program's state is the one with the
-- new call begun.
use Rattle.std.specs.Prelude.{◌≡◌, ◌≢◌, ◌-◌, ◌+◌, ◌*◌, ◌≤◌, ℕ, List, [], ◌∷◌, length, map, drop, slice_get, Some, Ok}
use Rattle.std.specs.Prelude.{option_map}
use Rattle.std.specs.List.{AllByRecursion}
use Rattle.pcc_base.specs.Outcome.{Value}
use Rattle.ia32_insn.specs.declared.register_names.Reg32.TheVariants.{Esp, Ebp}
use Rattle.ia32_insn.specs.Registers.{AreRegisters}
use Rattle.ia32_insn.specs.Places.{Place}
use Rattle.ia32_insn.specs.State as machine
use Rattle.ia32_insn.specs.State.{shape_of}
use Rattle.ia32_insn.specs.Meaning.{load, word_of}
use Rattle.ia32_insn.specs.Items.{stack_end, text_state}
use Rattle.flow_graph.specs.Graphs.{Stands}
use Rattle.flow_graph.specs.Liveness.{BeginsWith}
use Rattle.flow_graph.specs.Meaning.{most_active}
use Rattle.flow_graph.specs.States as graph
use Rattle.flow_graph.specs.States.{Activation, Waiting, active_of, depth_of, first_activation, flow_at}
use Rattle.flow_graph.specs.WellFormed.{IsWaiting}
use Rattle.ia32_rows.specs.Placements.{Code, objects_of, placement_of}
use Rattle.ia32_rows.specs.Shows.{ArgumentsStand, FrameArraysStand, HasBytes, HoldsOldArrays, ObjectsStand, ReturnsTo}
use Rattle.ia32_rows.specs.Shows.{StandsIn, WaitFrom, stack_bytes}

-- The youngest call that waits, and the one that it has just called, whose frame is going to be at this address. The
-- caller's frame is still at EBP, which is as much higher as the frame, the argument words, the return address and the
-- word at the new frame take; its variables stand where they do after the call, but for the result.
pub record WaitsAtEbp (code : Code) (active : List Activation) (frames : List ℕ) (s : machine.State)
    (younger : Activation) (frame : ℕ) (w : Waiting) (older : ℕ) : Type 0 where
  pub calls : IsWaiting code.program w younger
  pub ebp : word_of Ebp s ≡ older
  pub higher : older
      ≡ frame + 8 + 4 * length younger.arguments + (placement_of code w.activation.function).frame
  pub return_address : ℕ
  pub returns : load 4 (frame + 4) s ≡ Ok return_address
  pub returns_to : ReturnsTo code w younger.function return_address
  pub variables : (v : ℕ) (value : Value) (place : Place) → slice_get w.activation.variables v ≡ Some value
      → Some v ≢ calls.result → (placement_of code w.activation.function).after w.point v ≡ Some place
      → StandsIn code active frames s older
      (slice_get (flow_at code.program w.activation.function).widths v) value place

-- the calls that wait for one that has just begun
abbrev pub WaitAtEbp : Code → List Activation → List ℕ → machine.State → Activation → ℕ → List Waiting → List ℕ
    → Type 0
WaitAtEbp code active frames s younger frame [] older = WaitFrom code active frames s younger frame [] older
WaitAtEbp code active frames s younger frame (w ∷ waiting) (k ∷ older) =
    WaitsAtEbp code active frames s younger frame w k × WaitFrom code active frames s w.activation k waiting older
WaitAtEbp code active frames s younger frame (w ∷ waiting) [] = ⊥

-- The machine is at a function's first item, over an input, and the program is in the state g in which this call has
-- begun: the return address is at ESP, the argument words are above it, and below it is going to be the frame. All else
-- is as a state that shows one of the program has it, but that nothing is known of the new call's variables and arrays.
pub record Called (code : Code) (input : List ℕ) (g : graph.State) (s : machine.State) : Type 0 where
  pub frame : ℕ
  pub above : frame + 4 ≡ word_of Esp s
  pub older : List ℕ
  -- the function, at its first point, with arguments alone
  pub fresh : g.current ≡ first_activation code.program g.current.function g.current.arguments
  pub begins : BeginsWith (flow_at code.program g.current.function) 0 g.point
  pub eip : slice_get code.symbols.functions g.current.function ≡ Some s.eip
  pub registers : AreRegisters s.registers
  pub placed : Stands (flow_at code.program g.current.function) g.point g.block
  pub shapes : map shape_of s.memory ≡ map shape_of (text_state code.text (objects_of code.program) input).memory
  pub text : option_map (λ (a : machine.Area). a.bytes) (slice_get s.memory 0) ≡ Some code.text
  pub small : AllByRecursion HasBytes s.memory
  -- the stack
  pub room : stack_end code.text (objects_of code.program)
      ≤ frame + 8 + 4 * length g.current.arguments + stack_bytes code (map (λ w. w.activation) g.waiting)
  pub few : depth_of g ≤ most_active
  pub depth : load 4 code.symbols.depth s ≡ Ok (depth_of g)
  pub chain : WaitAtEbp code (active_of g) (frame ∷ older) s g.current frame g.waiting older
  -- arguments and arrays
  pub arguments : (i : ℕ) (a : Activation) (at : ℕ) → slice_get (active_of g) i ≡ Some a
      → slice_get (frame ∷ older) i ≡ Some at → ArgumentsStand code (active_of g) (frame ∷ older) s at a.arguments
  pub old_arrays : (i : ℕ) (a : Activation) → slice_get (active_of g) i ≡ Some a
      → HoldsOldArrays (depth_of g - i) a
  pub objects : ObjectsStand code s g.objects
  pub frame_arrays : (i : ℕ) (a : Activation) (at : ℕ) → slice_get (map (λ w. w.activation) g.waiting) i ≡ Some a
      → slice_get older i ≡ Some at → FrameArraysStand code s at a
  -- the input and the output
  pub left : s.left ≡ g.left
  pub taken : s.taken ≡ g.taken
  pub written : s.written ≡ g.written
  pub of_input : s.left ≡ drop s.taken input
