-- What the relation of a state of the machine and one of a program reads of memory, beside the current call's
-- variables: addresses with a number of bytes, a list of them for each call that is active.
use Rattle.std.specs.Prelude.{◌≡◌, ◌≢◌, ◌<◌, ◌⊎◌, ◌+◌, ◌-◌, ◌*◌, ℕ, ℤ, List, [], ◌∷◌, length, slice_get, Option}
use Rattle.std.specs.Prelude.{Some, Ok}
use Rattle.pcc_base.specs.Outcome.{Value}
use Rattle.ia32_insn.specs.declared.register_names.Reg32.TheVariants.{Esp, Ebp}
use Rattle.ia32_insn.specs.Places.{Place, InWord, InByte, InSlot}
use Rattle.ia32_insn.specs.State as machine
use Rattle.ia32_insn.specs.Meaning.{load, word_of, byte_of}
use Rattle.flow_graph.specs.States as graph
use Rattle.flow_graph.specs.States.{Activation, Waiting, active_of, flow_at}
use Rattle.ia32_rows.specs.Placements.{Code, placement_of}

-- ---- arrays

-- the number of elements, in the four bytes before an array's address, and each element
abbrev pub ElementReads : ℕ → ℕ → ℕ → ℕ → ℕ → Type 0
ElementReads address width count a n =
    ((a ≡ address - 4) × (n ≡ 4)) ⊎ ((i : ℕ) × (i < count) × (a ≡ address + width * i) × (n ≡ width))

-- those of the static objects
pub record ObjectReads (code : Code) (objects : List (List ℤ)) (a n : ℕ) : Type 0 where
  pub number : ℕ
  pub elements : List ℤ
  pub has : slice_get objects number ≡ Some elements
  pub object : graph.Object
  pub declared : slice_get code.program.objects number ≡ Some object
  pub address : ℕ
  pub placed : slice_get code.symbols.objects number ≡ Some address
  pub reads : ElementReads address object.width (length elements) a n

-- those of the frame arrays of active calls, whose frames are these
pub record FrameArrayReads (code : Code) (active : List Activation) (frames : List ℕ) (a n : ℕ) : Type 0 where
  pub call : ℕ
  pub activation : Activation
  pub is_active : slice_get active call ≡ Some activation
  pub frame : ℕ
  pub at_frame : slice_get frames call ≡ Some frame
  pub number : ℕ
  pub elements : List ℤ
  pub has : slice_get activation.arrays number ≡ Some elements
  pub array : ℕ × ℕ
  pub declared : slice_get (flow_at code.program activation.function).arrays number ≡ Some array
  pub below : ℕ
  pub placed : slice_get (placement_of code activation.function).arrays number ≡ Some below
  pub address : ℕ
  pub at_address : address + below ≡ frame
  pub reads : ElementReads address array.0 (length elements) a n

-- ---- calls

-- the argument words of active calls
pub record ArgumentReads (active : List Activation) (frames : List ℕ) (a n : ℕ) : Type 0 where
  pub call : ℕ
  pub activation : Activation
  pub is_active : slice_get active call ≡ Some activation
  pub frame : ℕ
  pub at_frame : slice_get frames call ≡ Some frame
  pub number : ℕ
  pub value : Value
  pub has : slice_get activation.arguments number ≡ Some value
  pub at_address : a ≡ frame + 8 + 4 * number
  pub four : n ≡ 4

-- the slots of a waiting call's variables, whose frame is this
pub record SlotReads (code : Code) (w : Waiting) (frame a n : ℕ) : Type 0 where
  pub variable : ℕ
  pub slot : ℕ
  pub placed : (placement_of code w.activation.function).after w.point variable ≡ Some (InSlot slot)
  pub at_address : a ≡ frame - slot
  pub long : (n ≡ 4) ⊎ (n ≡ 1)

-- What is read of a call for which another waits: the word at its frame, which is the older frame, the return address
-- above it and the EBX below it; and the slots of the one that waits.
abbrev pub LinkReads : Code → ℕ → ℕ → Waiting → ℕ → ℕ → Type 0
LinkReads code frame older w a n =
    ((a ≡ frame) × (n ≡ 4)) ⊎ ((a ≡ frame + 4) × (n ≡ 4)) ⊎ ((a ≡ frame - 4) × (n ≡ 4)) ⊎ SlotReads code w older a n

-- all this, by the frames of active calls, the youngest first; of the oldest it is the return address alone
abbrev pub ChainReads : Code → List ℕ → List Waiting → ℕ → ℕ → Type 0
ChainReads code [] waiting a n = ⊥
ChainReads code (frame ∷ older) [] a n = (a ≡ frame + 4) × (n ≡ 4)
ChainReads code (frame ∷ []) (w ∷ waiting) a n = ⊥
ChainReads code (frame ∷ older ∷ rest) (w ∷ waiting) a n =
    LinkReads code frame older w a n ⊎ ChainReads code (older ∷ rest) waiting a n

-- ---- the whole

-- what is read of the active calls, whose frames are these: the depth word, the chain, and the argument words
abbrev pub IsCallRead : Code → graph.State → List ℕ → ℕ → ℕ → Type 0
IsCallRead code g frames a n =
    ((a ≡ code.symbols.depth) × (n ≡ 4)) ⊎ ChainReads code frames g.waiting a n
    ⊎ ArgumentReads (active_of g) frames a n

-- and what of the arrays
abbrev pub IsArrayRead : Code → graph.State → List ℕ → ℕ → ℕ → Type 0
IsArrayRead code g frames a n =
    ObjectReads code g.objects a n ⊎ FrameArrayReads code (active_of g) frames a n

-- The place in memory, its address and its bytes, is read for the relation, beside the current call's variables.
abbrev pub IsProtected : Code → graph.State → List ℕ → ℕ → ℕ → Type 0
IsProtected code g frames a n = IsCallRead code g frames a n ⊎ IsArrayRead code g frames a n

-- ---- what a step keeps

-- what the place contains, where EBP is this: the word of a register, the byte, or what is loaded from the slot
abbrev pub IsSame : ℕ → Place → machine.State → machine.State → Type 0
IsSame base (InWord r) s t = word_of r t ≡ word_of r s
IsSame base (InByte r) s t = byte_of r t ≡ byte_of r s
IsSame base (InSlot slot) s t =
    (n w : ℕ) → (n ≡ 4) ⊎ (n ≡ 1) → load n (base - slot) s ≡ Ok w → load n (base - slot) t ≡ Ok w

-- What a step of the machine has to keep: ESP and EBP, all that is protected, and what variables contain that stand
-- somewhere after the point, but for the one that it sets.
pub record KeepsShown (code : Code) (g : graph.State) (frames : List ℕ) (set : Option ℕ) (s t : machine.State) : Type
    0 where
  pub esp : word_of Esp t ≡ word_of Esp s
  pub ebp : word_of Ebp t ≡ word_of Ebp s
  pub protected : (n a w : ℕ) → IsProtected code g frames a n → load n a s ≡ Ok w → load n a t ≡ Ok w
  pub others : (v : ℕ) (place : Place) → set ≢ Some v
      → (placement_of code g.current.function).after g.point v ≡ Some place → IsSame (word_of Ebp s) place s t
