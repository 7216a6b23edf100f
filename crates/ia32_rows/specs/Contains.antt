-- What places contain, and which of them are apart.
use Rattle.std.specs.Prelude.{◌≡◌, ◌≢◌, ◌-◌, ⊤, ℕ, Ok}
use Rattle.pcc_base.specs.declared.run.Width.{Width}
use Rattle.pcc_base.specs.declared.run.Width.TheVariants.{One, Two}
use Rattle.ia32_insn.specs.declared.register_names.Reg32.TheVariants.{Ebp, Esi, Edi}
use Rattle.ia32_insn.specs.Registers.{byte_place}
use Rattle.ia32_insn.specs.Places.{Place, InWord, InByte, InSlot, IsGeneral}
use Rattle.ia32_insn.specs.State.{State}
use Rattle.ia32_insn.specs.Meaning.{load, word_of, byte_of}
use Rattle.ia32_insn.specs.Keeps.{AreDisjoint}
use Rattle.ia32_rows.specs.Sites.{IsInFrame}
use Rattle.ia32_rows.specs.Effects.{OutsideWord}

-- a word in a place for a variable of width Two, a byte in one for width One
abbrev pub Contains : State → Width → Place → ℕ → Type 0
Contains s Two (InWord r) w = word_of r s ≡ w
Contains s Two (InByte r) w = ⊥
Contains s Two (InSlot k) w = load 4 (word_of Ebp s - k) s ≡ Ok w
Contains s One (InWord r) w = ⊥
Contains s One (InByte r) w = byte_of r s ≡ w
Contains s One (InSlot k) w = load 1 (word_of Ebp s - k) s ≡ Ok w

-- the place is one of the four registers, a byte of one, or a slot in a frame of so many bytes
abbrev pub IsPlaceIn : ℕ → Place → Type 0
IsPlaceIn frame (InWord r) = IsGeneral r
IsPlaceIn frame (InByte r) = ⊤
IsPlaceIn frame (InSlot k) = IsInFrame frame k

-- the place is one for a word
abbrev pub HoldsWord : Place → Type 0
HoldsWord (InWord r) = ⊤
HoldsWord (InByte r) = ⊥
HoldsWord (InSlot k) = ⊤

-- the cells of registers that aren't those of the place
abbrev pub OutsidePlace : Place → ℕ → Type 0
OutsidePlace (InWord r) k = OutsideWord r k
OutsidePlace (InByte r) k = k ≢ byte_place r
OutsidePlace (InSlot b) k = ⊤

-- neither those of the place nor those of the scratch registers
abbrev pub Untouched : Place → ℕ → Type 0
Untouched p k = OutsidePlace p k × OutsideWord Esi k × OutsideWord Edi k

-- the places in memory that are apart from the place, where EBP is this
abbrev pub ApartFromPlace : ℕ → Place → ℕ → ℕ → Type 0
ApartFromPlace base (InWord r) a n = ⊤
ApartFromPlace base (InByte r) a n = AreDisjoint (base - 16) 4 a n
ApartFromPlace base (InSlot k) a n = AreDisjoint (base - k) 4 a n
