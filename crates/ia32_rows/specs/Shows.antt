-- A state of the machine shows a state of a program of graphs.
use Rattle.std.specs.Prelude.{◌≡◌, ◌≢◌, ℕ, ◌+◌, ◌-◌, ◌*◌, ◌%◌, ◌<◌, ◌≤◌, ◌^◌, ⊤, ℤ, true, List, [], ◌∷◌, ◌++◌}
use Rattle.std.specs.List.{AllByRecursion}
use Rattle.std.specs.Prelude.{length, map, take, drop, slice_get, Option, Some, None, option_map, Ok, FitsSigned}
use Rattle.std.specs.Int.{w8, w32, cast_unsigned}
use Rattle.pcc_base.specs.Bytes.{AreBytes}
use Rattle.pcc_base.specs.Outcome.{ArrayName, Null, Static, InFrame, Unknown, Value, Number, Array}
use Rattle.pcc_base.specs.declared.run.Width.{Width}
use Rattle.pcc_base.specs.declared.run.Width.TheVariants.{One, Two}
use Rattle.ia32_insn.specs.declared.register_names.Reg32.TheVariants.{Ebx, Esp, Ebp}
use Rattle.ia32_insn.specs.Registers.{AreRegisters}
use Rattle.ia32_insn.specs.Places.{Place, InWord, InByte, InSlot}
use Rattle.ia32_insn.specs.declared.item.Item.{Item}
use Rattle.ia32_insn.specs.declared.item.Item.TheVariants as item
use Rattle.ia32_insn.specs.State as machine
use Rattle.ia32_insn.specs.State.{shape_of}
use Rattle.ia32_insn.specs.Meaning.{load, word_of, byte_of, with_word}
use Rattle.ia32_insn.specs.Items.{Places, ItemsAt, text_start, text_state, start_items, stack_end}
use Rattle.flow_graph.specs.Graphs.{Stands}
use Rattle.flow_graph.specs.Meaning.{most_active}
use Rattle.flow_graph.specs.States as graph
use Rattle.flow_graph.specs.States.{Activation, Waiting, active_of, depth_of, flow_at}
use Rattle.flow_graph.specs.WellFormed.{IsWaiting}
use Rattle.ia32_rows.specs.Placements.{Code, objects_of, placement_of, point_address}

-- ---- values

-- Where element 0 of frame array k of the active call of a depth stands, where the frames of the active calls are
-- these, the youngest first. The oldest call, which is that of `main`, has depth 1.
pub record IsFrameArrayAt (code : Code) (active : List Activation) (frames : List ℕ)
    (k depth word : ℕ) : Type 0 where
  -- the call is active, and has such an array
  pub oldest : 1 ≤ depth
  pub youngest : depth ≤ length active
  pub activation : Activation
  pub of_depth : slice_get active (length active - depth) ≡ Some activation
  pub elements : List ℤ
  pub has : slice_get activation.arrays k ≡ Some elements
  -- it stands as far below the call's frame as the placement says
  pub frame : ℕ
  pub at_frame : slice_get frames (length active - depth) ≡ Some frame
  pub below : ℕ
  pub placed : slice_get (placement_of code activation.function).arrays k ≡ Some below
  pub address : word + below ≡ frame

-- the address of element 0 of an array; one that isn't there has none
abbrev pub IsArrayAt : Code → List Activation → List ℕ → ArrayName → ℕ → Type 0
IsArrayAt code active frames Null word = word ≡ 0
IsArrayAt code active frames (Static k) word =
    (k < length code.program.objects) × (slice_get code.symbols.objects k ≡ Some word)
IsArrayAt code active frames (InFrame k depth) word = IsFrameArrayAt code active frames k depth word
IsArrayAt code active frames Unknown word = ⊥

-- the word of a value: a number's 32 bits, or an array's address
abbrev pub IsWord : Code → List Activation → List ℕ → Value → ℕ → Type 0
IsWord code active frames (Number n) word = FitsSigned w32 n × (word ≡ cast_unsigned w32 n)
IsWord code active frames (Array a) word = IsArrayAt code active frames a word

abbrev pub IsByte : Value → ℕ → Type 0
IsByte (Number n) byte = FitsSigned w8 n × (byte ≡ cast_unsigned w8 n)
IsByte (Array a) byte = ⊥

-- what a slot of a frame holds, by the variable's width
abbrev pub InSlotOf : Code → List Activation → List ℕ → machine.State → ℕ → Option Width → Value → Type 0
InSlotOf code active frames s address (Some Two) value =
    (word : ℕ) × (load 4 address s ≡ Ok word) × IsWord code active frames value word
InSlotOf code active frames s address (Some One) value =
    (byte : ℕ) × (load 1 address s ≡ Ok byte) × IsByte value byte
InSlotOf code active frames s address None value = ⊥

-- the value stands in the place, in the frame at this address
abbrev pub StandsIn : Code → List Activation → List ℕ → machine.State → ℕ → Option Width → Value → Place → Type 0
StandsIn code active frames s frame width value (InWord r) = IsWord code active frames value (word_of r s)
StandsIn code active frames s frame width value (InByte r) = IsByte value (byte_of r s)
StandsIn code active frames s frame width value (InSlot below) =
    InSlotOf code active frames s (frame - below) width value

-- every variable of an active call that has a place stands there
abbrev pub AllStand : Code → List Activation → List ℕ → machine.State → ℕ → Activation → (ℕ → Option Place)
    → Type 0
AllStand code active frames s frame a place_of =
    (v : ℕ) (value : Value) (place : Place) → slice_get a.variables v ≡ Some value → place_of v ≡ Some place
    → StandsIn code active frames s frame (slice_get (flow_at code.program a.function).widths v) value place

-- ---- frames

-- an item that is neither a point nor a call of a function
abbrev pub IsInside : Item → Type 0
IsInside (item.Plain i) = ⊤
IsInside (item.Label k) = ⊤
IsInside (item.Point p) = ⊥
IsInside (item.JumpTo k) = ⊤
IsInside (item.JumpIf how k) = ⊤
IsInside (item.CallFunction f) = ⊥
IsInside (item.CallStub stub) = ⊤
IsInside (item.JumpTrap how) = ⊤
IsInside (item.AddressOf r k) = ⊤

-- the bytes stand in the text at the address
abbrev pub StandsInText : Code → ℕ → List ℕ → Type 0
StandsInText code address bytes =
    (done rest : List ℕ) × (code.text ≡ done ++ (bytes ++ rest)) × (address ≡ text_start + length done)

-- the items of a point up to the call of a function, with no other point or call between
abbrev pub up_to_call : List Item → ℕ → List Item → ℕ → List Item
up_to_call front point middle callee = front ++ item.Point point ∷ middle ++ item.CallFunction callee ∷ []

-- the address after a point's call of a function, among items that stand in the text from an address on
abbrev pub ReturnsAt : Code → Places → ℕ → List Item → ℕ → ℕ → ℕ → Type 0
ReturnsAt code places address items point callee return_address =
    (front middle back : List Item) × (before after : List ℕ)
    × (items ≡ up_to_call front point middle callee ++ back) × AllByRecursion IsInside middle
    × ItemsAt code.symbols places address (up_to_call front point middle callee) before
    × ItemsAt code.symbols places (address + length before) back after
    × StandsInText code address (before ++ after) × (return_address ≡ address + length before)

-- the return address of the call of a function for which an active call waits
abbrev pub ReturnsTo : Code → Waiting → ℕ → ℕ → Type 0
ReturnsTo code w callee return_address =
    (items : List Item) × (places : Places) × (address : ℕ)
    × (slice_get code.items w.activation.function ≡ Some items)
    × (slice_get code.places w.activation.function ≡ Some places)
    × (slice_get code.symbols.functions w.activation.function ≡ Some address)
    × ReturnsAt code places address items w.point callee return_address

-- the start up to the call of `main`, and what follows it
abbrev pub start_of : Code → List Item
start_of code = start_items (stack_end code.text (objects_of code.program)) code.symbols.depth code.program.main

abbrev pub startup : Code → List Item
startup code = take 3 (start_of code)

abbrev pub ending : Code → List Item
ending code = drop 3 (start_of code)

-- the address after that call
abbrev pub StartReturns : Code → ℕ → Type 0
StartReturns code return_address =
    (before after : List ℕ) × (places : Places)
    × ItemsAt code.symbols places text_start (startup code) before
    × ItemsAt code.symbols places (text_start + length before) (ending code) after
    × StandsInText code text_start (before ++ after) × (return_address ≡ text_start + length before)

-- A waiting call, and the younger one for which it waits, at their frames. The word at the younger frame is the older
-- one, which is as much higher as the frame, the argument words, the return address and that word take; the word above
-- it is the return address; the word below it is the EBX of the waiting call (System V ABI, Intel386 supplement,
-- "Function Calling Sequence").
pub record Waits (code : Code) (active : List Activation) (frames : List ℕ) (s : machine.State) (younger : Activation)
    (frame : ℕ) (w : Waiting) (older : ℕ) : Type 0 where
  -- the waiting op is a call of the younger one's function with its arguments
  pub calls : IsWaiting code.program w younger
  pub link : load 4 frame s ≡ Ok older
  pub higher : older
      ≡ frame + 8 + 4 * length younger.arguments + (placement_of code w.activation.function).frame
  pub return_address : ℕ
  pub returns : load 4 (frame + 4) s ≡ Ok return_address
  pub returns_to : ReturnsTo code w younger.function return_address
  pub ebx : ℕ
  pub saved : load 4 (frame - 4) s ≡ Ok ebx
  -- every variable that has a place after the call stands there, but for the result
  pub variables : (v : ℕ) (value : Value) (place : Place) → slice_get w.activation.variables v ≡ Some value
      → Some v ≢ calls.result → (placement_of code w.activation.function).after w.point v ≡ Some place
      → StandsIn code active frames (with_word Ebx ebx s) older
      (slice_get (flow_at code.program w.activation.function).widths v) value place

-- the frames of the calls that wait for one whose frame is given; the oldest is that of `main`, which the start calls
abbrev pub WaitFrom : Code → List Activation → List ℕ → machine.State → Activation → ℕ → List Waiting → List ℕ
    → Type 0
WaitFrom code active frames s younger frame [] [] =
    (younger.function ≡ code.program.main) × (younger.arguments ≡ [])
    × (r : ℕ) × (load 4 (frame + 4) s ≡ Ok r) × StartReturns code r
WaitFrom code active frames s younger frame (w ∷ waiting) (older ∷ rest) =
    Waits code active frames s younger frame w older × WaitFrom code active frames s w.activation older waiting rest
WaitFrom code active frames s younger frame [] (older ∷ rest) = ⊥
WaitFrom code active frames s younger frame (w ∷ waiting) [] = ⊥

-- how many bytes of the stack active calls take at most: each its frame, its arguments, its return address and the
-- word at its frame
abbrev pub stack_bytes : Code → List Activation → ℕ
stack_bytes code [] = 0
stack_bytes code (a ∷ older) =
    8 + (placement_of code a.function).frame + 4 * length a.arguments + stack_bytes code older

-- ---- arrays

-- argument word k of an active call stands so far above its frame
abbrev pub ArgumentsStand : Code → List Activation → List ℕ → machine.State → ℕ → List Value → Type 0
ArgumentsStand code active frames s frame arguments =
    (k : ℕ) (value : Value) → slice_get arguments k ≡ Some value
    → (word : ℕ) × (load 4 (frame + 8 + 4 * k) s ≡ Ok word) × IsWord code active frames value word

-- an array held by an active call of a depth is no younger than that
abbrev pub IsOldArray : ℕ → Value → Type 0
IsOldArray depth (Number n) = ⊤
IsOldArray depth (Array Null) = ⊤
IsOldArray depth (Array (Static k)) = ⊤
IsOldArray depth (Array (InFrame k of)) = (1 ≤ of) × (of ≤ depth)
IsOldArray depth (Array Unknown) = ⊥

abbrev pub HoldsOldArrays : ℕ → Activation → Type 0
HoldsOldArrays depth a =
    ((v : ℕ) (value : Value) → slice_get a.variables v ≡ Some value → IsOldArray depth value)
    × ((k : ℕ) (value : Value) → slice_get a.arguments k ≡ Some value → IsOldArray depth value)

-- the elements stand from the address on, and their number in the four bytes before
abbrev pub ElementsStand : machine.State → ℕ → ℕ → List ℤ → Type 0
ElementsStand s address width elements =
    (load 4 (address - 4) s ≡ Ok (length elements))
    × ((i : ℕ) (z : ℤ) → slice_get elements i ≡ Some z
    → (word : ℕ) × (load width (address + width * i) s ≡ Ok word) × (word ≡ cast_unsigned w32 z % 2 ^ (8 * width)))

-- every static object has its elements at its address
abbrev pub ObjectsStand : Code → machine.State → List (List ℤ) → Type 0
ObjectsStand code s objects =
    (k : ℕ) (elements : List ℤ) → slice_get objects k ≡ Some elements
    → (object : graph.Object) × (address : ℕ) × (slice_get code.program.objects k ≡ Some object)
    × (slice_get code.symbols.objects k ≡ Some address) × ElementsStand s address object.width elements

-- every array of an active call has its elements as far below the frame as the placement says
abbrev pub FrameArraysStand : Code → machine.State → ℕ → Activation → Type 0
FrameArraysStand code s frame a =
    (k : ℕ) (elements : List ℤ) → slice_get a.arrays k ≡ Some elements
    → (array : ℕ × ℕ) × (below address : ℕ) × (slice_get (flow_at code.program a.function).arrays k ≡ Some array)
    × (slice_get (placement_of code a.function).arrays k ≡ Some below) × (address + below ≡ frame)
    × ElementsStand s address array.0 elements

-- what an area has that may be written are bytes
abbrev pub HasBytes : machine.Area → Type 0
HasBytes area = area.writable ≡ true → AreBytes area.bytes

-- ---- the whole

-- The state s of the machine shows the state g of the program over an input, with the current call's variables in these
-- places and EIP at this address.
pub record ShowsIn (code : Code) (input : List ℕ) (places : ℕ → Option Place) (address : ℕ) (g : graph.State)
    (s : machine.State) : Type 0 where
  -- the frames of the active calls, the youngest first
  pub frames : List ℕ
  pub older : List ℕ
  pub youngest : frames ≡ word_of Ebp s ∷ older
  -- the registers are registers, the point is in its block, and memory is that of the image, with its text, and bytes
  pub registers : AreRegisters s.registers
  pub placed : Stands (flow_at code.program g.current.function) g.point g.block
  pub shapes : map shape_of s.memory ≡ map shape_of (text_state code.text (objects_of code.program) input).memory
  pub text : option_map (λ (a : machine.Area). a.bytes) (slice_get s.memory 0) ≡ Some code.text
  pub small : AllByRecursion HasBytes s.memory
  pub eip : s.eip ≡ address
  -- the stack
  pub esp : word_of Esp s + (placement_of code g.current.function).frame ≡ word_of Ebp s
  pub room : stack_end code.text (objects_of code.program) ≤ word_of Esp s + stack_bytes code (active_of g)
  pub few : depth_of g ≤ most_active
  pub depth : load 4 code.symbols.depth s ≡ Ok (depth_of g)
  pub chain : WaitFrom code (active_of g) frames s g.current (word_of Ebp s) g.waiting older
  -- variables, arguments and arrays
  pub variables : AllStand code (active_of g) frames s (word_of Ebp s) g.current places
  pub arguments : (i : ℕ) (a : Activation) (frame : ℕ) → slice_get (active_of g) i ≡ Some a
      → slice_get frames i ≡ Some frame → ArgumentsStand code (active_of g) frames s frame a.arguments
  pub old_arrays : (i : ℕ) (a : Activation) → slice_get (active_of g) i ≡ Some a
      → HoldsOldArrays (depth_of g - i) a
  pub objects : ObjectsStand code s g.objects
  pub frame_arrays : (i : ℕ) (a : Activation) (frame : ℕ) → slice_get (active_of g) i ≡ Some a
      → slice_get frames i ≡ Some frame → FrameArraysStand code s frame a
  -- the input and the output
  pub left : s.left ≡ g.left
  pub taken : s.taken ≡ g.taken
  pub written : s.written ≡ g.written
  pub of_input : s.left ≡ drop s.taken input

-- It shows it where EIP is at its point, and the variables stand where they do before it.
abbrev pub Shows : Code → List ℕ → graph.State → machine.State → Type 0
Shows code input g s =
    ShowsIn code input ((placement_of code g.current.function).before g.point)
    (point_address code g.current.function g.point) g s
