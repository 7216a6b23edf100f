-- What stays shown: the laws of a step of the machine beside a step of the program.
use Rattle.std.specs.Prelude.{◌≡◌, ◌<◌, ◌≤◌, ◌⊎◌, ◌+◌, ◌-◌, ◌*◌, ◌%◌, ◌^◌, ⊤, ℕ, ℤ, List, length, drop, slice_get}
use Rattle.std.specs.Prelude.{slice_set, Some, None, Ok}
use Rattle.std.specs.Int.{w32, cast_unsigned}
use Rattle.pcc_base.specs.Outcome.{ArrayName, InFrame as FrameArray, Value}
use Rattle.ia32_insn.specs.declared.register_names.Reg32.TheVariants.{Esp, Ebp}
use Rattle.ia32_insn.specs.Places.{Place, InWord, InByte, InSlot}
use Rattle.ia32_insn.specs.State as machine
use Rattle.ia32_insn.specs.Meaning.{load, word_of, byte_of}
use Rattle.ia32_insn.specs.Keeps.{AreDisjoint}
use Rattle.ia32_insn.specs.Items.{data_bytes, data_start}
use Rattle.flow_graph.specs.declared.op.Op.{Op}
use Rattle.flow_graph.specs.Graphs.{Stands}
use Rattle.flow_graph.specs.Liveness.{IsSuccessor, defined}
use Rattle.flow_graph.specs.States as graph
use Rattle.flow_graph.specs.States.{active_of, depth_of, elements_of, flow_at, op_at, with_array, with_value}
use Rattle.flow_graph.specs.WellFormed.{IsState}
use Rattle.ia32_rows.specs.Placements.{Code, objects_of, placement_of}
use Rattle.ia32_rows.specs.Shows.{ElementsStand, IsArrayAt, IsOldArray, Shows, StandsIn}
use Rattle.ia32_rows.specs.Sites.{Framed, SoundAt}
use Rattle.ia32_rows.specs.Rows.{scratch}
use Rattle.ia32_rows.specs.Contains.{ApartFromPlace}
use Rattle.ia32_laws.specs.Supports.{IsPlaceFor, IsSupported, site_of, size_of}
use Rattle.ia32_laws.specs.MovesLaws.{ShowsBehind}
use Rattle.ia32_laws.specs.Protected.{IsProtected, KeepsShown}

-- ---- where a state is shown

-- the end of the static data
abbrev pub data_end : Code → ℕ
data_end code = data_start code.text + length (data_bytes (objects_of code.program))

-- A state of the machine that shows one of the program is in the frame of the current call. The stack begins 0x1000
-- bytes or more above the data.
pub record InFrame (code : Code) (g : graph.State) (s : machine.State) : Type 0 where
  pub framed : Framed (site_of code g.current.function) (placement_of code g.current.function).frame s
  pub room : data_end code + 0x1000 ≤ word_of Esp s

abbrev pub ShownInFrame : Type 0
ShownInFrame =
    (code : Code) (input : List ℕ) (g : graph.State) (s : machine.State) → IsSupported code → IsState code.program g
    → Shows code input g s → InFrame code g s

-- ---- what is protected

-- Nothing that is protected is below ESP, but for the static data; and no place for a variable of the current call has
-- a byte of it, nor has the frame's word of scratch.
pub record IsApart (code : Code) (g : graph.State) (s : machine.State) (a n : ℕ) : Type 0 where
  pub above : (word_of Esp s ≤ a) ⊎ (a + n ≤ data_end code)
  pub places : (v : ℕ) (place : Place)
      → IsPlaceFor (flow_at code.program g.current.function) (placement_of code g.current.function) v place
      → ApartFromPlace (word_of Ebp s) place a n
  pub scratch : AreDisjoint (word_of Ebp s - scratch) 4 a n

abbrev pub ProtectedIsApart : Type 0
ProtectedIsApart =
    (code : Code) (input : List ℕ) (g : graph.State) (s : machine.State) (a n : ℕ) → IsSupported code
    → IsState code.program g → (shown : Shows code input g s) → IsProtected code g shown.frames a n
    → IsApart code g s a n

-- Nor has any of it, or a slot of the current call, a byte of what is pushed, up to 0x1000 bytes.
pub record IsAbovePushed (code : Code) (g : graph.State) (frames : List ℕ) (s : machine.State) (bytes : ℕ) : Type 0
  where
    pub protected : (a n : ℕ) → IsProtected code g frames a n → AreDisjoint (word_of Esp s - bytes) bytes a n
    pub slots : (v slot n : ℕ)
        → IsPlaceFor (flow_at code.program g.current.function) (placement_of code g.current.function) v (InSlot slot)
        → AreDisjoint (word_of Esp s - bytes) bytes (word_of Ebp s - slot) n

abbrev pub PushedIsApart : Type 0
PushedIsApart =
    (code : Code) (input : List ℕ) (g : graph.State) (s : machine.State) (bytes : ℕ) → IsSupported code
    → IsState code.program g → (shown : Shows code input g s) → bytes ≤ 0x1000
    → IsAbovePushed code g shown.frames s bytes

-- ---- what stays shown

-- the state at another point, of any block, with this input and output
abbrev pub moved_to : ℕ → ℕ → List ℕ → ℕ → List ℕ → graph.State → graph.State
moved_to block point left taken written g =
    record g { block = block; point = point; left = left; taken = taken; written = written }

-- The machine is behind the op's row, with the input and the output of this state, which is at a next point of the
-- current function.
pub record Arrives (code : Code) (input : List ℕ) (g h : graph.State) (t : machine.State) : Type 0 where
  pub leads : IsSuccessor (flow_at code.program g.current.function) g.point h.point
  pub placed : Stands (flow_at code.program g.current.function) h.point h.block
  pub sound : SoundAt (site_of code g.current.function) t
  pub left : t.left ≡ h.left
  pub taken : t.taken ≡ h.taken
  pub written : t.written ≡ h.written
  pub of_input : t.left ≡ drop t.taken input

-- Where the op sets no variable, the next state is shown behind the row once all that is protected and all places are
-- kept.
abbrev pub MovedShows : Type 0
MovedShows =
    (code : Code) (input : List ℕ) (g : graph.State) (s t : machine.State) (o : Op) (block point : ℕ) (left : List ℕ)
    (taken : ℕ) (written : List ℕ) → IsSupported code → IsState code.program g → (shown : Shows code input g s)
    → op_at code.program g ≡ Some o → defined o ≡ None → KeepsShown code g shown.frames None s t
    → Arrives code input g (moved_to block point left taken written g) t
    → ShowsBehind code input g.point (moved_to block point left taken written g) t

-- Where it sets one, the next state is shown there once the variable stands in its place, and all that is protected and
-- all other places are kept.
abbrev pub SetShows : Type 0
SetShows =
    (code : Code) (input : List ℕ) (g : graph.State) (s t : machine.State) (o : Op) (d : ℕ) (value : Value)
    (block point : ℕ) (left : List ℕ) (taken : ℕ) (written : List ℕ) → IsSupported code → IsState code.program g
    → (shown : Shows code input g s) → op_at code.program g ≡ Some o → defined o ≡ Some d
    → KeepsShown code g shown.frames (Some d) s t
    → ((place : Place) → (placement_of code g.current.function).after g.point d ≡ Some place
    → StandsIn code (active_of g) shown.frames t (word_of Ebp t)
    (slice_get (flow_at code.program g.current.function).widths d) value place)
    → IsOldArray (depth_of g) value
    → Arrives code input g (moved_to block point left taken written g) t
    → ShowsBehind code input g.point (with_value d value (moved_to block point left taken written g)) t

-- ---- an array changes

-- the word or the byte of a place that is a register
abbrev pub IsSameRegister : Place → machine.State → machine.State → Type 0
IsSameRegister (InWord r) s t = word_of r t ≡ word_of r s
IsSameRegister (InByte r) s t = byte_of r t ≡ byte_of r s
IsSameRegister (InSlot slot) s t = ⊤

-- A step keeps ESP, EBP, all of memory outside so many bytes from an address on, and the registers that variables stand
-- in after the point.
pub record KeepsOutside (code : Code) (g : graph.State) (first bytes : ℕ) (s t : machine.State) : Type 0 where
  pub esp : word_of Esp t ≡ word_of Esp s
  pub ebp : word_of Ebp t ≡ word_of Ebp s
  pub loads : (n a w : ℕ) → AreDisjoint first bytes a n → load n a s ≡ Ok w → load n a t ≡ Ok w
  pub registers : (v : ℕ) (place : Place) → (placement_of code g.current.function).after g.point v ≡ Some place
      → IsSameRegister place s t

-- Where an array of any depth, or a static object, gets other elements, the next state is shown once these stand at the
-- array's address, and all outside the old ones is kept.
abbrev pub ArrayShows : Type 0
ArrayShows =
    (code : Code) (input : List ℕ) (g : graph.State) (s t : machine.State) (o : Op) (array : ArrayName)
    (address width : ℕ) (elements new : List ℤ) (block point : ℕ) (left : List ℕ) (taken : ℕ) (written : List ℕ)
    → IsSupported code → IsState code.program g → (shown : Shows code input g s) → op_at code.program g ≡ Some o
    → defined o ≡ None → elements_of code.program g array ≡ Some (width, elements)
    → IsArrayAt code (active_of g) shown.frames array address
    → KeepsOutside code g address (width * length elements) s t → ElementsStand t address width new
    → Arrives code input g (moved_to block point left taken written g) t
    → ShowsBehind code input g.point (with_array array new (moved_to block point left taken written g)) t

-- Where an array of the current call does, all of its last word may change with it.
abbrev pub OwnArrayShows : Type 0
OwnArrayShows =
    (code : Code) (input : List ℕ) (g : graph.State) (s t : machine.State) (o : Op) (k distance : ℕ)
    (array : ℕ × ℕ) (elements new : List ℤ) (block point : ℕ) (left : List ℕ) (taken : ℕ) (written : List ℕ)
    → IsSupported code → IsState code.program g → Shows code input g s → op_at code.program g ≡ Some o
    → defined o ≡ None → slice_get g.current.arrays k ≡ Some elements
    → slice_get (flow_at code.program g.current.function).arrays k ≡ Some array
    → slice_get (placement_of code g.current.function).arrays k ≡ Some distance
    → KeepsOutside code g (word_of Ebp s - distance) (size_of array) s t
    → ElementsStand t (word_of Ebp s - distance) array.0 new
    → Arrives code input g (moved_to block point left taken written g) t
    → ShowsBehind code input g.point
    (with_array (FrameArray k (depth_of g)) new (moved_to block point left taken written g)) t

-- Where one element is stored, it is shown once that stands in its place, and all outside its bytes is kept.
abbrev pub ElementShows : Type 0
ElementShows =
    (code : Code) (input : List ℕ) (g : graph.State) (s t : machine.State) (o : Op) (array : ArrayName)
    (address width : ℕ) (elements : List ℤ) (i : ℕ) (z : ℤ) (block point : ℕ) (left : List ℕ) (taken : ℕ)
    (written : List ℕ) → IsSupported code → IsState code.program g → (shown : Shows code input g s)
    → op_at code.program g ≡ Some o → defined o ≡ None → elements_of code.program g array ≡ Some (width, elements)
    → IsArrayAt code (active_of g) shown.frames array address → i < length elements
    → KeepsOutside code g (address + width * i) width s t
    → load width (address + width * i) t ≡ Ok (cast_unsigned w32 z % 2 ^ (8 * width))
    → Arrives code input g (moved_to block point left taken written g) t
    → ShowsBehind code input g.point
    (with_array array (slice_set elements i z) (moved_to block point left taken written g)) t
