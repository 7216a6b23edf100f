-- The parts of an image: sections and static objects, with their sizes and numbers.
use Rattle.std.specs.Prelude.{◌≡◌, ◌⊎◌, ◌<◌, ◌≤◌, ℕ, ◌+◌, ⊤, List, [], ◌∷◌, length, map, slice_get, Some}
use Rattle.std.specs.Prelude.{slice_index_or}
pub use Rattle.pcc_base.specs.Objects.{object_of}
use Rattle.ia32_insn.specs.Items.{Object, elements_size}
use Rattle.ia32_asm.specs.declared.section.Section.{Section}
use Rattle.ia32_asm.specs.declared.section.Target.{Target}
use Rattle.ia32_asm.specs.declared.section.Target.TheVariants as target

-- the bytes of all sections, and of all static objects with their headers
abbrev pub sections_size : List Section → ℕ
sections_size [] = 0
sections_size (s ∷ sections) = length s.bytes.items + sections_size sections

abbrev pub objects_size : List Object → ℕ
objects_size [] = 0
objects_size (object ∷ objects) = 4 + elements_size object + objects_size objects

-- the number of the function that a section's symbol names, and those of sections in their order
abbrev pub function_of : Section → ℕ
function_of section = (slice_index_or section.symbols.items 0 (record { function = 0; offset = 0 })).function

abbrev pub order_of : List Section → List ℕ
order_of sections = map function_of sections

-- the target is one of so many functions, or of so many objects
abbrev pub IsThere : ℕ → ℕ → Target → Type 0
IsThere functions objects (target.Function f) = f < functions
IsThere functions objects (target.Object k) = k < objects
IsThere functions objects (target.Stub s) = ⊤
IsThere functions objects target.Check = ⊤
IsThere functions objects target.Depth = ⊤

-- objects of elements of 1, 2 or 4 bytes, whose bytes are at most 2^24
pub record CanHold (objects : List Object) : Type 0 where
  pub widths : (k : ℕ) (o : Object) → slice_get objects k ≡ Some o → (o.width ≡ 1) ⊎ ((o.width ≡ 2) ⊎ (o.width ≡ 4))
  pub size : objects_size objects ≤ 0x01000000
