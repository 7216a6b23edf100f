-- What the relation refuses, and what it says of a call that waits.
use Rattle.std.specs.Prelude.{◌≡◌, ℕ, ◌+◌, ◌-◌, ◌<◌, ◌≤◌, ◌^◌, List, [], ◌∷◌, length, slice_get, Option, Some, None, Ok}
use Rattle.pcc_base.specs.Bytes.{AreBytes}
use Rattle.pcc_base.specs.Outcome.{Static, InFrame}
use Rattle.ia32_insn.specs.declared.register_names.Reg32.TheVariants.{Ebp}
use Rattle.ia32_insn.specs.State as machine
use Rattle.ia32_insn.specs.Meaning.{load, word_of}
use Rattle.flow_graph.specs.declared.op.Op.TheVariants.{Call}
use Rattle.flow_graph.specs.States as graph
use Rattle.flow_graph.specs.States.{Activation, Waiting, op_of}
use Rattle.flow_graph.specs.WellFormed.{IsState}
use Rattle.ia32_rows.specs.Placements.{Code}
use Rattle.ia32_rows.specs.Shows.{IsArrayAt, ReturnsTo, Shows}

-- ---- inputs

-- an input with a number that is no byte is none, and no state has one left
abbrev pub InputsAreBytes : Type 0
InputsAreBytes =
    (AreBytes (2 ^ 32 ∷ []) → ⊥)
    × ((program : graph.GraphProgram) (g : graph.State) → g.left ≡ 2 ^ 32 ∷ [] → IsState program g → ⊥)

-- ---- arrays that aren't there have no address

-- a frame array of a depth above the stack
abbrev pub NoneAboveTheStack : Type 0
NoneAboveTheStack =
    (code : Code) (active : List Activation) (frames : List ℕ) (k depth word : ℕ) → length active < depth
    → IsArrayAt code active frames (InFrame k depth) word → ⊥

-- a frame array that the call doesn't have
abbrev pub NoneBeyondTheArrays : Type 0
NoneBeyondTheArrays =
    (code : Code) (a : Activation) (frames : List ℕ) (k word : ℕ) → slice_get a.arrays k ≡ None
    → IsArrayAt code (a ∷ []) frames (InFrame k 1) word → ⊥

-- a static object that the program doesn't have
abbrev pub NoneBeyondTheObjects : Type 0
NoneBeyondTheObjects =
    (code : Code) (active : List Activation) (frames : List ℕ) (k word : ℕ) → length code.program.objects ≤ k
    → IsArrayAt code active frames (Static k) word → ⊥

-- ---- a call that waits

-- The youngest waiting call waits for a call of the current one's function, to whose place behind that call the return
-- address leads; and the EBX that it had is in memory.
pub record WaitsForCurrent (code : Code) (g : graph.State) (s : machine.State) (w : Waiting) : Type 0 where
  pub result : Option ℕ
  pub words : List ℕ
  pub calls : op_of code.program w.activation.function w.point ≡ Some (Call result g.current.function words)
  pub return_address : ℕ
  pub returns : load 4 (word_of Ebp s + 4) s ≡ Ok return_address
  pub returns_to : ReturnsTo code w g.current.function return_address
  pub ebx : ℕ
  pub saved : load 4 (word_of Ebp s - 4) s ≡ Ok ebx

abbrev pub WaitingCalls : Type 0
WaitingCalls =
    (code : Code) (input : List ℕ) (g : graph.State) (s : machine.State) (w : Waiting) (waiting : List Waiting)
    → Shows code input g s → g.waiting ≡ w ∷ waiting → WaitsForCurrent code g s w

-- where no call waits, the current one is that of `main`
abbrev pub OldestIsMain : Type 0
OldestIsMain =
    (code : Code) (input : List ℕ) (g : graph.State) (s : machine.State) → Shows code input g s → g.waiting ≡ []
    → (g.current.function ≡ code.program.main) × (g.current.arguments ≡ [])
