-- The layout of an image of any sections: where sections, routines and data stand, and what their bytes are (ELF,
-- "Relocation": a word that a relocation awaits takes the place of four bytes, whatever they were).
use Rattle.std.specs.Prelude.{◌≡◌, ◌⊎◌, ◌<◌, ◌≤◌, ℕ, ◌+◌, ◌-◌, List, length, take, drop, map, slice_get, Option, Some}
use Rattle.byteorder.specs.Endian.{little_bytes}
use Rattle.ia32_insn.specs.Items.{Symbols, Places, Object, ItemsAt, text_start, data_start, stack_end, data_bytes}
use Rattle.ia32_insn.specs.Items.{object_addresses, start_items, putchar_items, getchar_items, exit_items, check_items}
use Rattle.ia32_asm.specs.declared.section.Section.{Section}
use Rattle.ia32_asm.specs.declared.section.Relocation.{Relocation}
use Rattle.ia32_asm.specs.Sections.{word_for}
use Rattle.elf_link.specs.Parts.{function_of, sections_size}
use Rattle.elf_link.specs.declared.linked.Linked.{Linked}
use Rattle.elf_link.specs.Placed.{start_size, putchar_size, getchar_size, exit_size, check_size, routines_size}

-- ---- bytes by their addresses

-- the byte of a text at an address, and so many bytes from there on
abbrev pub byte_at : List ℕ → ℕ → Option ℕ
byte_at text address = slice_get text (address - text_start)

abbrev pub bytes_at : List ℕ → ℕ → ℕ → List ℕ
bytes_at text address size = take size (drop (address - text_start) text)

-- ---- one section

-- the offset is none of the four of a relocation
abbrev pub IsOutside : ℕ → Relocation → Type 0
IsOutside offset r = (offset < r.at) ⊎ (r.at + 4 ≤ offset)

-- two relocations share no byte
abbrev pub AreApart : Relocation → Relocation → Type 0
AreApart r q = (r.at + 4 ≤ q.at) ⊎ (q.at + 4 ≤ r.at)

-- The section stands in the text at the address. Its bytes are kept but for the four of each relocation, which are the
-- word that the relocation awaits. Only of four bytes that share some with another relocation's nothing is said.
pub record HasSection (symbols : Symbols) (text : List ℕ) (address : ℕ) (section : Section) : Type 0 where
  pub kept : (offset : ℕ) → offset < length section.bytes.items
      → ((j : ℕ) (r : Relocation) → slice_get section.relocations.items j ≡ Some r → IsOutside offset r)
      → byte_at text (address + offset) ≡ slice_get section.bytes.items offset
  pub words : (j : ℕ) (r : Relocation) → slice_get section.relocations.items j ≡ Some r
      → ((k : ℕ) (q : Relocation) → slice_get section.relocations.items k ≡ Some q → (k ≡ j → ⊥) → AreApart r q)
      → (n : ℕ) → n < 4
      → byte_at text (address + r.at + n) ≡ slice_get (little_bytes 4 (word_for symbols address r)) n

-- ---- the whole

-- the address of the section at a place: behind the start and the sections before it
abbrev pub section_address : List Section → ℕ → ℕ
section_address sections i = text_start + start_size + sections_size (take i sections)

-- The image has the start, each section at its address, and the routines, and behind them the data. Relocations name
-- functions, objects and routines by these addresses. Each entry of a section's points is moved to an address, those
-- of numbers that no point has with the others.
pub record IsLaidOut (sections : List Section) (objects : List Object) (main : ℕ) (linked : Linked) : Type 0 where
  pub symbols : Symbols
  pub size : length linked.image.text.items ≡ sections_size sections + routines_size
  pub start_at : (none : Places) → ItemsAt symbols none text_start
      (start_items (stack_end linked.image.text.items objects) symbols.depth main)
      (bytes_at linked.image.text.items text_start start_size)
  pub sections_at : (i : ℕ) (s : Section) → slice_get sections i ≡ Some s
      → HasSection symbols linked.image.text.items (section_address sections i) s
  pub functions_many : length symbols.functions ≡ length sections
  pub functions_are : (i : ℕ) (s : Section) → slice_get sections i ≡ Some s
      → slice_get symbols.functions (function_of s) ≡ Some (section_address sections i)
  pub putchar_is : symbols.putchar ≡ text_start + start_size + sections_size sections
  pub putchar_at : (none : Places) → ItemsAt symbols none symbols.putchar putchar_items
      (bytes_at linked.image.text.items symbols.putchar putchar_size)
  pub getchar_is : symbols.getchar ≡ symbols.putchar + putchar_size
  pub getchar_at : (none : Places) → ItemsAt symbols none symbols.getchar getchar_items
      (bytes_at linked.image.text.items symbols.getchar getchar_size)
  pub exit_is : symbols.exit ≡ symbols.getchar + getchar_size
  pub exit_at : (none : Places) → ItemsAt symbols none symbols.exit exit_items
      (bytes_at linked.image.text.items symbols.exit exit_size)
  pub check_is : symbols.check ≡ symbols.exit + exit_size
  pub check_at : (none : Places) → ItemsAt symbols none symbols.check check_items
      (bytes_at linked.image.text.items symbols.check check_size)
  pub depth_is : symbols.depth ≡ data_start linked.image.text.items
  pub objects_at : symbols.objects ≡ object_addresses (symbols.depth + 4) objects
  pub data_is : linked.image.data_bytes.items ≡ data_bytes objects
  pub entry : linked.image.entry ≡ text_start
  pub points_many : length linked.points.items ≡ length sections
  pub points_are : (i : ℕ) (s : Section) → slice_get sections i ≡ Some s
      → slice_get (map (λ v. v.items) linked.points.items) (function_of s)
      ≡ Some (map (λ offset. section_address sections i + offset) s.points.items)
  pub objects_are : linked.objects.items ≡ symbols.objects
