-- Sections: the code of one function, and where it awaits the addresses of a program (ELF, "Relocation"; System V
-- ABI, Intel386 supplement, R_386_32 and R_386_PC32, with an addend of 0 and a distance from the end of the word).
use Rattle.std.specs.Prelude.{◌≡◌, ◌<◌, ◌≤◌, ℕ, ◌+◌, ◌-◌, ◌%◌, ◌^◌, ◌==◌, ⊤, Bool, true, false, List, [], ◌∷◌, ◌++◌}
use Rattle.std.specs.Prelude.{length, take, drop, map, slice_get, slice_index, Option, Some, None, unwrap_or}
use Rattle.std.specs.Prelude.{if◌then◌else◌}
use Rattle.std.specs.List.{filter_map}
use Rattle.byteorder.specs.Endian.{little_bytes}
use Rattle.ia32_insn.specs.declared.item.Item.{Item}
use Rattle.ia32_insn.specs.declared.item.Item.TheVariants as item
use Rattle.ia32_insn.specs.Spelling.{HasSpelling}
use Rattle.ia32_insn.specs.Preferred.{preferred}
use Rattle.ia32_insn.specs.Items.{Symbols, stub_address, ItemsAt}
use Rattle.ia32_asm.specs.declared.section.Section.{Section}
use Rattle.ia32_asm.specs.declared.section.Relocation.{Relocation}
use Rattle.ia32_asm.specs.declared.section.Target.{Target}
use Rattle.ia32_asm.specs.declared.section.Target.TheVariants as target

-- ---- what items name outside of their function

-- the static object of a number, and for this number the depth word
abbrev pub object_target : ℕ → Target
object_target k = if k == 0xffffffff then target.Depth else target.Object k

-- the target of an item that has one
abbrev pub target_of : Item → Option Target
target_of (item.Plain i) = None
target_of (item.Label l) = None
target_of (item.Point p) = None
target_of (item.JumpTo l) = None
target_of (item.JumpIf c l) = None
target_of (item.CallFunction f) = Some (target.Function f)
target_of (item.CallStub s) = Some (target.Stub s)
target_of (item.JumpTrap c) = Some target.Check
target_of (item.AddressOf r k) = Some (object_target k)

-- code is called and jumped to by its distance, and data have an address
abbrev pub is_relative : Target → Bool
is_relative (target.Function f) = true
is_relative (target.Stub s) = true
is_relative target.Check = true
is_relative (target.Object k) = false
is_relative target.Depth = false

-- ---- bytes with the words for their targets in place

-- the address of a target, if there is such a function or object
abbrev pub target_address : Symbols → Target → Option ℕ
target_address symbols (target.Function f) = slice_get symbols.functions f
target_address symbols (target.Object k) = slice_get symbols.objects k
target_address symbols (target.Stub s) = Some (stub_address symbols s)
target_address symbols target.Check = Some symbols.check
target_address symbols target.Depth = Some symbols.depth

-- how far it is from one address to another, in 32 bits
abbrev pub distance_word : ℕ → ℕ → ℕ
distance_word from to = (to + (2 ^ 32 - from)) % 2 ^ 32

-- the word that a relocation awaits, in a section at this address: the target's address, or its distance from
-- the end of the four bytes
abbrev pub word_for : Symbols → ℕ → Relocation → ℕ
word_for symbols base r =
    let address : ℕ = unwrap_or (target_address symbols r.target) 0 in
    if r.relative then distance_word (base + r.at + 4) address else address

-- the bytes with this word at an offset, the lowest byte first
abbrev pub with_word : ℕ → ℕ → List ℕ → List ℕ
with_word offset word bytes = take offset bytes ++ little_bytes 4 word ++ drop (offset + 4) bytes

-- the bytes of a section at this address, with the words that its relocations await
abbrev pub resolved : Symbols → ℕ → List Relocation → List ℕ → List ℕ
resolved symbols base [] bytes = bytes
resolved symbols base (r ∷ relocations) bytes =
    resolved symbols base relocations (with_word r.at (word_for symbols base r) bytes)

-- the target has an address of 32 bits
abbrev pub HasAddress : Symbols → Target → Type 0
HasAddress symbols t = (address : ℕ) × (target_address symbols t ≡ Some address) × (address < 2 ^ 32)

-- each target of the relocations has one
abbrev pub HaveAddresses : Symbols → List Relocation → Type 0
HaveAddresses symbols relocations = (j : ℕ) (r : Relocation) → slice_get relocations j ≡ Some r
    → HasAddress symbols r.target

-- ---- sections

-- the item stands somewhere in the items
abbrev pub Stands : Item → List Item → Type 0
Stands i items = (j : ℕ) × (slice_get items j ≡ Some i)

-- The entries are one for each number up to the greatest that such an item has, and 0 for a number that none has.
pub record IsNumbered (mark : ℕ → Item) (items : List Item) (entries : List ℕ) : Type 0 where
  pub within : (n : ℕ) → Stands (mark n) items → n < length entries
  pub greatest : (n : ℕ) → length entries ≡ n + 1 → Stands (mark n) items
  pub others : (n : ℕ) → (Stands (mark n) items → ⊥) → slice_index entries n ≡ 0

-- each relocation's four bytes stand behind those before it, from the offset on, and they end within the length
abbrev pub FollowFrom : ℕ → List Relocation → ℕ → Type 0
FollowFrom offset [] n = offset ≤ n
FollowFrom offset (r ∷ relocations) n = (offset ≤ r.at) × FollowFrom (r.at + 4) relocations n

-- The section of a function with these items: wherever it stands, and whatever addresses the targets have, its
-- bytes with the words for them are a text of the items. It has one symbol, and a relocation for each item with a
-- target, in their order, whose four bytes are 0.
pub record IsSection (function : ℕ) (items : List Item) (section : Section) : Type 0 where
  pub labels : ℕ → ℕ
  pub stands : (symbols : Symbols) (base : ℕ) → base + length section.bytes.items < 2 ^ 32
      → HaveAddresses symbols section.relocations.items
      → ItemsAt symbols (record {
        labels = λ l. base + labels l;
        points =
            λ p. base + slice_index section.points.items p;
      }) base items
      (resolved symbols base section.relocations.items section.bytes.items)
  pub one_symbol : section.symbols.items ≡ record { function = function; offset = 0 } ∷ []
  pub targets : map (λ r. r.target) section.relocations.items ≡ filter_map target_of items
  pub relative : (j : ℕ) (r : Relocation) → slice_get section.relocations.items j ≡ Some r
      → r.relative ≡ is_relative r.target
  pub apart : FollowFrom 0 section.relocations.items (length section.bytes.items)
  pub empty : (j : ℕ) (r : Relocation) → slice_get section.relocations.items j ≡ Some r
      → take 4 (drop r.at section.bytes.items) ≡ 0 ∷ 0 ∷ 0 ∷ 0 ∷ []
  pub numbered : IsNumbered item.Point items section.points.items
  pub points_within : (p : ℕ) → slice_index section.points.items p ≤ length section.bytes.items

-- ---- what can be assembled

-- the bytes of an item: a jump or call has a distance of 32 bits
abbrev pub item_size : Item → ℕ
item_size (item.Plain i) = length (preferred i)
item_size (item.Label l) = 0
item_size (item.Point p) = 0
item_size (item.JumpTo l) = 5
item_size (item.JumpIf c l) = 6
item_size (item.CallFunction f) = 5
item_size (item.CallStub s) = 5
item_size (item.JumpTrap None) = 5
item_size (item.JumpTrap (Some c)) = 6
item_size (item.AddressOf r k) = 5

abbrev pub items_size : List Item → ℕ
items_size [] = 0
items_size (i ∷ items) = item_size i + items_size items

-- no two of the items have such a mark with one number
abbrev pub StandOnce : (ℕ → Item) → List Item → Type 0
StandOnce mark items = (i j n : ℕ) → slice_get items i ≡ Some (mark n) → slice_get items j ≡ Some (mark n) → i ≡ j

-- a plain instruction has a spelling
abbrev pub IsSpelled : Item → Type 0
IsSpelled (item.Plain i) = HasSpelling i
IsSpelled (item.Label l) = ⊤
IsSpelled (item.Point p) = ⊤
IsSpelled (item.JumpTo l) = ⊤
IsSpelled (item.JumpIf c l) = ⊤
IsSpelled (item.CallFunction f) = ⊤
IsSpelled (item.CallStub s) = ⊤
IsSpelled (item.JumpTrap c) = ⊤
IsSpelled (item.AddressOf r k) = ⊤

-- the label that an item jumps to stands in the items
abbrev pub HasLabel : List Item → Item → Type 0
HasLabel items (item.Plain i) = ⊤
HasLabel items (item.Label l) = ⊤
HasLabel items (item.Point p) = ⊤
HasLabel items (item.JumpTo l) = Stands (item.Label l) items
HasLabel items (item.JumpIf c l) = Stands (item.Label l) items
HasLabel items (item.CallFunction f) = ⊤
HasLabel items (item.CallStub s) = ⊤
HasLabel items (item.JumpTrap c) = ⊤
HasLabel items (item.AddressOf r k) = ⊤

-- items of one function, whose bytes are fewer than 2^30
pub record CanAssemble (items : List Item) : Type 0 where
  pub spelled : (j : ℕ) (i : Item) → slice_get items j ≡ Some i → IsSpelled i
  pub labelled : (j : ℕ) (i : Item) → slice_get items j ≡ Some i → HasLabel items i
  pub labels_once : StandOnce item.Label items
  pub points_once : StandOnce item.Point items
  pub size : items_size items < 2 ^ 30
