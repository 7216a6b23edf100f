-- Inner words: what the assembler keeps of items while it goes through them.
use Rattle.std.specs.Prelude.{◌≡◌, ◌⊎◌, ◌<◌, ◌≤◌, ℕ, ◌+◌, ◌-◌, ⊤, ℤ, pos, List, [], ◌∷◌, length, take, slice_get}
use Rattle.std.specs.Prelude.{slice_index, Option, Some, None, ◌==◌, if◌then◌else◌}
use Rattle.std.specs.Int.{w32, cast_signed}
use Rattle.ia32_insn.specs.declared.operand.Rm32.TheVariants as rm
use Rattle.ia32_insn.specs.declared.insn.Insn.{Insn}
use Rattle.ia32_insn.specs.declared.insn.Insn.TheVariants as insn
use Rattle.ia32_insn.specs.declared.item.Item.{Item}
use Rattle.ia32_insn.specs.declared.item.Item.TheVariants as item
use Rattle.ia32_insn.specs.Spelling.{Spells}
use Rattle.ia32_insn.specs.Preferred.{preferred}
use Rattle.ia32_asm.specs.declared.offsets.Offsets.{Offsets}
use Rattle.ia32_asm.specs.declared.section.Relocation.{Relocation}
use Rattle.ia32_asm.specs.declared.section.Target.{Target}
use Rattle.ia32_asm.specs.Sections.{target_of, is_relative, distance_word, IsNumbered, item_size, items_size}

-- the instruction of an item, with this distance to a label, and 0 for what is linked later
abbrev pub instruction_in : ℤ → Item → Option Insn
instruction_in z (item.Plain i) = Some i
instruction_in z (item.Label l) = None
instruction_in z (item.Point p) = None
instruction_in z (item.JumpTo l) = Some (insn.Jmp z)
instruction_in z (item.JumpIf c l) = Some (insn.Jcc c z)
instruction_in z (item.CallFunction f) = Some (insn.Call (pos 0))
instruction_in z (item.CallStub s) = Some (insn.Call (pos 0))
instruction_in z (item.JumpTrap None) = Some (insn.Jmp (pos 0))
instruction_in z (item.JumpTrap (Some c)) = Some (insn.Jcc c (pos 0))
instruction_in z (item.AddressOf r k) = Some (insn.MovImm (rm.Reg r) (pos 0))

abbrev pub spelling_of : Option Insn → List ℕ
spelling_of None = []
spelling_of (Some i) = preferred i

-- the bytes of an item
abbrev pub piece : ℤ → Item → List ℕ
piece z i = spelling_of (instruction_in z i)

-- the preferred spelling of a plain instruction is one
abbrev pub IsPreferred : Item → Type 0
IsPreferred (item.Plain i) = Spells i (preferred i)
IsPreferred (item.Label l) = ⊤
IsPreferred (item.Point p) = ⊤
IsPreferred (item.JumpTo l) = ⊤
IsPreferred (item.JumpIf c l) = ⊤
IsPreferred (item.CallFunction f) = ⊤
IsPreferred (item.CallStub s) = ⊤
IsPreferred (item.JumpTrap c) = ⊤
IsPreferred (item.AddressOf r k) = ⊤

-- the distance to its label from an item at an offset, where the labels have these offsets
abbrev pub distance_in : List ℕ → ℕ → Item → ℤ
distance_in labels offset (item.Plain i) = pos 0
distance_in labels offset (item.Label l) = pos 0
distance_in labels offset (item.Point p) = pos 0
distance_in labels offset (item.JumpTo l) = cast_signed w32 (distance_word (offset + 5) (slice_index labels l))
distance_in labels offset (item.JumpIf c l) = cast_signed w32 (distance_word (offset + 6) (slice_index labels l))
distance_in labels offset (item.CallFunction f) = pos 0
distance_in labels offset (item.CallStub s) = pos 0
distance_in labels offset (item.JumpTrap c) = pos 0
distance_in labels offset (item.AddressOf r k) = pos 0

-- the label of a jump has an entry
abbrev pub HasEntry : List ℕ → Item → Type 0
HasEntry labels (item.Plain i) = ⊤
HasEntry labels (item.Label l) = ⊤
HasEntry labels (item.Point p) = ⊤
HasEntry labels (item.JumpTo l) = l < length labels
HasEntry labels (item.JumpIf c l) = l < length labels
HasEntry labels (item.CallFunction f) = ⊤
HasEntry labels (item.CallStub s) = ⊤
HasEntry labels (item.JumpTrap c) = ⊤
HasEntry labels (item.AddressOf r k) = ⊤

-- the relocation of the last four bytes before an offset
abbrev pub relocation_for : ℕ → Option Target → List Relocation
relocation_for end None = []
relocation_for end (Some t) = record { at = end - 4; relative = is_relative t; target = t } ∷ []

-- the relocation of an item that ends at an offset
abbrev pub relocations_in : ℕ → Item → List Relocation
relocations_in end i = relocation_for end (target_of i)

-- the entry at a place, and zeros before it where there was none; others as before
pub record IsPut (old : List ℕ) (place entry : ℕ) (new : List ℕ) : Type 0 where
  pub entries : (n : ℕ) → slice_index new n ≡ (if n == place then entry else slice_index old n)
  pub longer : length old ≤ length new
  pub within : place < length new
  pub greatest : (n : ℕ) → length new ≡ n + 1 → (length old ≡ n + 1) ⊎ (n ≡ place)

-- the offsets of such marks among the items
pub record AreOffsets (mark : ℕ → Item) (items : List Item) (offsets : List ℕ) : Type 0 where
  pub offset : (j n : ℕ) → slice_get items j ≡ Some (mark n) → slice_index offsets n ≡ items_size (take j items)
  pub bound : (n : ℕ) → slice_index offsets n ≤ items_size items
  pub numbered : IsNumbered mark items offsets

-- the offsets of the labels and of the points among the items, and the bytes that these have
pub record AreLaid (items : List Item) (offsets : Offsets) : Type 0 where
  pub labels : AreOffsets item.Label items offsets.labels.items
  pub points : AreOffsets item.Point items offsets.points.items
  pub size : offsets.size ≡ items_size items

-- only the bytes are more, by those of the item
abbrev pub IsLonger : Item → Offsets → Offsets → Type 0
IsLonger i old new = (new.labels.items ≡ old.labels.items) × (new.points.items ≡ old.points.items)
    × (new.size ≡ old.size + item_size i)

-- one more item behind those that were laid
abbrev pub Adds : Item → Offsets → Offsets → Type 0
Adds (item.Plain i) old new = IsLonger (item.Plain i) old new
Adds (item.Label l) old new = IsPut old.labels.items l old.size new.labels.items × (new.points.items ≡ old.points.items)
    × (new.size ≡ old.size)
Adds (item.Point p) old new = IsPut old.points.items p old.size new.points.items × (new.labels.items ≡ old.labels.items)
    × (new.size ≡ old.size)
Adds (item.JumpTo l) old new = IsLonger (item.JumpTo l) old new
Adds (item.JumpIf c l) old new = IsLonger (item.JumpIf c l) old new
Adds (item.CallFunction f) old new = IsLonger (item.CallFunction f) old new
Adds (item.CallStub s) old new = IsLonger (item.CallStub s) old new
Adds (item.JumpTrap c) old new = IsLonger (item.JumpTrap c) old new
Adds (item.AddressOf r k) old new = IsLonger (item.AddressOf r k) old new
