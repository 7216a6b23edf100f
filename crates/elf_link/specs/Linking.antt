-- Linked programs: the sections of all functions and the static objects in one image.
use Rattle.std.specs.Prelude.{◌≡◌, ◌<◌, ◌≤◌, ℕ, ◌+◌, ◌^◌, List, length, map, slice_get, slice_index, Some}
use Rattle.ia32_insn.specs.declared.item.Item.{Item}
use Rattle.ia32_insn.specs.declared.item.Item.TheVariants as item
use Rattle.ia32_insn.specs.Items.{Symbols, Places, Object, IsOrder, IsText, text_start, data_bytes}
use Rattle.ia32_asm.specs.declared.section.Section.{Section}
use Rattle.ia32_asm.specs.declared.section.Relocation.{Relocation}
use Rattle.ia32_asm.specs.Sections.{Stands, IsSection}
use Rattle.elf_link.specs.Parts.{sections_size, function_of, order_of, IsThere, CanHold}
use Rattle.elf_link.specs.declared.linked.Linked.{Linked}

-- ---- what can be linked

-- it has a symbol, and each relocation names what is there, and lies inside the bytes; so does each point
pub record FitsIn (functions objects : ℕ) (section : Section) : Type 0 where
  pub named : 0 < length section.symbols.items
  pub targets : (j : ℕ) (r : Relocation) → slice_get section.relocations.items j ≡ Some r
      → IsThere functions objects r.target
  pub inside : (j : ℕ) (r : Relocation) → slice_get section.relocations.items j ≡ Some r
      → r.at + 4 ≤ length section.bytes.items
  pub points : (p : ℕ) → slice_index section.points.items p ≤ length section.bytes.items

-- The sections are those of the functions from 0 on, each once, in any order.
pub record CanLink (sections : List Section) (objects : List Object) (main : ℕ) : Type 0 where
  pub main_there : main < length sections
  pub order : IsOrder (length sections) (order_of sections)
  pub each : (k : ℕ) (s : Section) → slice_get sections k ≡ Some s → FitsIn (length sections) (length objects) s
  pub code : sections_size sections < 2 ^ 30
  pub held : CanHold objects

-- ---- what is linked

-- the sections are those of so many functions, each of the function that its symbol names
pub record AreSections (functions : List (List Item)) (sections : List Section) : Type 0 where
  pub many : length functions ≡ length sections
  pub each : (i : ℕ) (s : Section) → slice_get sections i ≡ Some s
      → (items : List Item) × (slice_get functions (function_of s) ≡ Some items) × IsSection (function_of s) items s

-- the entries are the addresses of the points of a function, one for each number up to the greatest
pub record HasPoints (items : List Item) (place : Places) (entries : List ℕ) : Type 0 where
  pub addresses : (p : ℕ) → Stands (item.Point p) items → slice_get entries p ≡ Some (place.points p)
  pub greatest : (p : ℕ) → length entries ≡ p + 1 → Stands (item.Point p) items

-- the image has the text of the functions in this order and the data of the objects, with the addresses of points and
-- objects
pub record IsLinked (functions : List (List Item)) (order : List ℕ) (objects : List Object) (main : ℕ)
    (linked : Linked) : Type 0 where
  pub places : List Places
  pub symbols : Symbols
  pub text : IsText functions order objects main places symbols linked.image.text.items
  pub data_is : linked.image.data_bytes.items ≡ data_bytes objects
  pub entry : linked.image.entry ≡ text_start
  pub points_are : length linked.points.items ≡ length functions
  pub points : (f : ℕ) (items : List Item) (place : Places) (entries : List ℕ) → slice_get functions f ≡ Some items
      → slice_get places f ≡ Some place
      → slice_get (map (λ v. v.items) linked.points.items) f ≡ Some entries → HasPoints items place entries
  pub objects_are : linked.objects.items ≡ symbols.objects
