-- The start of a program with any static objects: what stands in the data of its image, and the state in which `main`
-- begins.
use Rattle.std.specs.Prelude.{◌≡◌, ◌+◌, ◌*◌, ◌<◌, ◌≤◌, ◌^◌, ℕ, List, [], length, map, slice_get, Some, Ok}
use Rattle.ia32_insn.specs.declared.register_names.Reg32.TheVariants.{Esp}
use Rattle.ia32_insn.specs.declared.item.Item.{Item}
use Rattle.ia32_insn.specs.State as machine
use Rattle.ia32_insn.specs.Meaning.{load, word_of}
use Rattle.ia32_insn.specs.Keeps.{AreDisjoint}
use Rattle.ia32_insn.specs.Items.{IsText, Object, Places, Symbols, data_bytes, data_start, elements_size, stack_end}
use Rattle.ia32_insn.specs.Items.{text_state}
use Rattle.flow_graph.specs.Running.{first_state}
use Rattle.flow_graph.specs.States as graph
use Rattle.ia32_rows.specs.Follows.{Starts}
use Rattle.ia32_rows.specs.Paths.{Comes}
use Rattle.ia32_rows.specs.Placements.{Code, objects_of}
use Rattle.ia32_rows.specs.Shows.{ObjectsStand}
use Rattle.ia32_rows.specs.Sites.{IsSound}
use Rattle.ia32_rows.specs.CallsLaws.{ReturnsToStart}
use Rattle.ia32_laws.specs.Supports.{IsSupported}
use Rattle.ia32_laws.specs.StandingLaws.{IsSelected}
use Rattle.ia32_laws.specs.Called.{Called}
use Rattle.ia32_laws.specs.EntriesLaws.{EntryAt}

-- ---- the data

-- the first state of the image of the code
abbrev pub image_state : Code → List ℕ → machine.State
image_state code input = text_state code.text (objects_of code.program) input

-- The data of an image as they begin: every static object has its number of elements and its elements, no call is
-- active, and all else is 0, up to the stack's end.
pub record DataStand (code : Code) (s : machine.State) : Type 0 where
  pub objects : ObjectsStand code s (map (λ object. object.elements) code.program.objects)
  pub depth : load 4 code.symbols.depth s ≡ Ok 0
  -- behind an object's elements, up to a multiple of four bytes
  pub padding : (k address n a : ℕ) (object : Object) → slice_get code.program.objects k ≡ Some object
      → slice_get code.symbols.objects k ≡ Some address → address + object.width * length object.elements ≤ a
      → a + n ≤ address + elements_size object → 0 < n → load n a s ≡ Ok 0
  pub zeros : (n a : ℕ) → data_start code.text + length (data_bytes (objects_of code.program)) ≤ a
      → a + n ≤ stack_end code.text (objects_of code.program) → 0 < n → load n a s ≡ Ok 0

abbrev pub DataBegin : Type 0
DataBegin = (code : Code) (input : List ℕ) → IsSupported code → DataStand code (image_state code input)

-- ---- the start

-- The state in which `main` begins: one call is active, the return address is in the last word of the stack, and what
-- is loaded from elsewhere is as in the image.
pub record StartedOver (symbols : Symbols) (text : List ℕ) (objects : List Object) (main address : ℕ) (input : List ℕ)
    (t : machine.State) : Type 0 where
  pub comes : Comes text (text_state text objects input) t
  pub eip : t.eip ≡ address
  pub sound : IsSound text (data_start text) (stack_end text objects) t
  pub esp : word_of Esp t + 4 ≡ stack_end text objects
  pub return_address : ℕ
  pub returns : load 4 (word_of Esp t) t ≡ Ok return_address
  pub returns_to : ReturnsToStart symbols text objects main return_address
  pub depth : load 4 symbols.depth t ≡ Ok 1
  pub kept : (n b w : ℕ) → AreDisjoint (word_of Esp t) 4 b n → AreDisjoint symbols.depth 4 b n
      → load n b (text_state text objects input) ≡ Ok w → load n b t ≡ Ok w
  pub left : t.left ≡ input
  pub taken : t.taken ≡ 0
  pub written : t.written ≡ []

-- The start comes to the address of the function that it calls, over any static objects whose image ends below 2 ^ 32.
abbrev pub StartGoesOver : Type 0
StartGoesOver =
    (functions : List (List Item)) (order : List ℕ) (objects : List Object) (main : ℕ) (places : List Places)
    (symbols : Symbols) (text : List ℕ) (address : ℕ) (input : List ℕ)
    → IsText functions order objects main places symbols text → stack_end text objects < 2 ^ 32
    → slice_get symbols.functions main ≡ Some address
    → (t : machine.State) × StartedOver symbols text objects main address input t

-- From the image's first state the machine comes to the first item of `main`, with the program in its first state, and
-- every static object is shown.
abbrev pub MainIsCalled : Type 0
MainIsCalled =
    (code : Code) (input : List ℕ) (g : graph.State) → IsSupported code → first_state code.program input ≡ Some g
    → (t : machine.State) × Comes code.text (image_state code input) t × Called code input g t

-- The first items of `main` stand where its call begins. So they do in selected code.
abbrev pub MainIsReady : Code → Type 0
MainIsReady code =
    (input : List ℕ) (g : graph.State) (s : machine.State) → first_state code.program input ≡ Some g
    → Called code input g s → EntryAt code g s

-- Then the machine comes from the image's first state over a list of bytes to one that shows the program's first state.
abbrev pub MainIsShown : Type 0
MainIsShown = (code : Code) → IsSupported code → MainIsReady code → Starts code

abbrev pub MainsAreReady : Type 0
MainsAreReady = (code : Code) → IsSelected code → MainIsReady code

-- So selected code comes there, with any static objects and frame arrays.
abbrev pub ObjectsStart : Type 0
ObjectsStart = (code : Code) → IsSelected code → Starts code
