-- Inner words: what the linker keeps of sections while it goes through them.
use Rattle.std.specs.List.{filter_map}
use Rattle.std.specs.Prelude.{◌≡◌, ℕ, ◌+◌, List, [], ◌∷◌, ◌++◌, length, map, slice_get, Some}
use Rattle.ia32_insn.specs.declared.item.Item.{Item}
use Rattle.ia32_insn.specs.Items.{Symbols, Places, ItemsAt, text_start, start_items, putchar_items, getchar_items}
use Rattle.ia32_insn.specs.Items.{exit_items, check_items}
use Rattle.ia32_asm.specs.declared.section.Section.{Section}
use Rattle.ia32_asm.specs.declared.section.Target.{Target}
use Rattle.ia32_asm.specs.Sections.{target_of, resolved, items_size, HasAddress}
use Rattle.elf_link.specs.declared.addresses.Addresses.{Addresses}
use Rattle.elf_link.specs.Parts.{IsThere}
use Rattle.elf_link.specs.Symbols.{symbols_of}
use Rattle.elf_link.specs.Placed.{start_size}

-- the bytes of sections that stand one behind the other from an address on
abbrev pub code_from : Symbols → ℕ → List Section → List ℕ
code_from symbols address [] = []
code_from symbols address (s ∷ sections) =
    resolved symbols address s.relocations.items s.bytes.items
    ++ code_from symbols (address + length s.bytes.items) sections

-- and the addresses of their points
abbrev pub points_from : ℕ → List Section → List (List ℕ)
points_from address [] = []
points_from address (s ∷ sections) = map (λ p. address + p) s.points.items
    ∷ points_from (address + length s.bytes.items) sections

-- the targets that items name are there, and have addresses
abbrev pub AreNamed : Addresses → List Item → Type 0
AreNamed a items =
    (j : ℕ) (t : Target) → slice_get (filter_map target_of items) j ≡ Some t
    → IsThere (length a.functions.items) (length a.objects.items) t × HasAddress (symbols_of a) t

-- behind a text stand bytes of items at an address
pub record HasItems (a : Addresses) (address : ℕ) (items : List Item) (old new : List ℕ) : Type 0 where
  pub places : Places
  pub bytes : List ℕ
  pub text : new ≡ old ++ bytes
  pub size : length bytes ≡ items_size items
  pub items_at : ItemsAt (symbols_of a) places address items bytes

-- the text: the start, the functions, and the other routines
pub record HasCode (sections : List Section) (main : ℕ) (a : Addresses) (text : List ℕ) : Type 0 where
  pub start : List ℕ
  pub functions : List ℕ
  pub putchar : List ℕ
  pub getchar : List ℕ
  pub exit : List ℕ
  pub starts : HasItems a text_start (start_items a.stack a.depth main) [] start
  pub calls : functions ≡ start ++ code_from (symbols_of a) (text_start + start_size) sections
  pub puts : HasItems a a.putchar putchar_items functions putchar
  pub gets : HasItems a a.getchar getchar_items putchar getchar
  pub exits : HasItems a a.exit exit_items getchar exit
  pub checks : HasItems a a.check check_items exit text
