-- Where sections, routines and static objects stand in an image.
use Rattle.std.specs.Prelude.{◌≡◌, ℕ, ◌+◌, List, [], ◌∷◌, length, slice_get, Some}
use Rattle.ia32_insn.specs.Items.{Object, round_up, text_start, object_addresses}
use Rattle.ia32_asm.specs.declared.section.Section.{Section}
use Rattle.elf_link.specs.declared.addresses.Addresses.{Addresses}
use Rattle.elf_link.specs.Parts.{order_of, sections_size, objects_size}

-- where each section is, one behind the other from an address on
abbrev pub addresses_from : ℕ → List Section → List ℕ
addresses_from address [] = []
addresses_from address (s ∷ sections) = address ∷ addresses_from (address + length s.bytes.items) sections

-- a list by the numbers of functions has what stands at the places of these numbers in their order
abbrev pub AreNumbered : {A : Type 0} → List ℕ → List A → List A → Type 0
AreNumbered order placed numbered = (i k : ℕ) → slice_get order i ≡ Some k → slice_get numbered k ≡ slice_get placed i

-- the bytes of the start, and of the routines `putchar`, `getchar` and the end of a program
abbrev pub start_size : ℕ
start_size = 0x1d

abbrev pub putchar_size : ℕ
putchar_size = 0x1d

abbrev pub getchar_size : ℕ
getchar_size = 0x21

abbrev pub exit_size : ℕ
exit_size = 0x0b

-- and those of the trap of a failed check
abbrev pub check_size : ℕ
check_size = 0x02

-- the bytes of all of them
abbrev pub routines_size : ℕ
routines_size = 0x68

-- the functions have addresses behind the start, and behind them come the routines
pub record AreInText (sections : List Section) (a : Addresses) : Type 0 where
  pub many : length a.functions.items ≡ length sections
  pub functions : AreNumbered (order_of sections) (addresses_from (text_start + start_size) sections) a.functions.items
  pub putchar : a.putchar ≡ text_start + start_size + sections_size sections
  pub getchar : a.getchar ≡ a.putchar + putchar_size
  pub exit : a.exit ≡ a.getchar + getchar_size
  pub check : a.check ≡ a.exit + exit_size

-- the data begin on the page behind the text, with the depth word, and the stack ends behind their memory
pub record AreAddresses (sections : List Section) (objects : List Object) (a : Addresses) : Type 0 where
  pub in_text : AreInText sections a
  pub depth : a.depth ≡ text_start + round_up 0x1000 (sections_size sections + routines_size)
  pub objects_are : a.objects.items ≡ object_addresses (a.depth + 4) objects
  pub stack : a.stack ≡ a.depth + (round_up 4 (4 + objects_size objects) + 0x04001000)
