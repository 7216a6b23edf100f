-- The laws of straight code and of the rows that move and compute words.
use Rattle.std.specs.Prelude.{◌≡◌, ◌≢◌, ◌%◌, ◌^◌, ◌<◌, ◌≤◌, ⊤, ℕ, ℤ, List, ◌++◌}
use Rattle.std.specs.Int.{w32, cast_unsigned}
use Rattle.pcc_base.specs.declared.run.Width.{Width}
use Rattle.pcc_base.specs.declared.run.Width.TheVariants.{One, Two}
use Rattle.ia32_insn.specs.declared.register_names.Reg32.{Reg32}
use Rattle.ia32_insn.specs.declared.register_names.Reg32.TheVariants.{Esp, Ebp}
use Rattle.ia32_insn.specs.declared.register_names.Reg8.{Reg8}
use Rattle.ia32_insn.specs.Registers.{number32, byte_place}
use Rattle.ia32_insn.specs.Places.{Place, InWord, InByte, InSlot}
use Rattle.ia32_insn.specs.declared.insn.AluOp.{AluOp}
use Rattle.ia32_insn.specs.declared.insn.AluOp.TheVariants as alu
use Rattle.ia32_insn.specs.declared.item.Item.{Item}
use Rattle.ia32_insn.specs.State.{State, at_address}
use Rattle.ia32_insn.specs.Arithmetic.{alu_value, extended8, sum}
use Rattle.ia32_insn.specs.Meaning.{word_of}
use Rattle.ia32_rows.specs.Paths.{Comes}
use Rattle.ia32_rows.specs.Sites.{Site, SoundAt, ReadyAt, Framed, Anywhere, IsInFrame}
use Rattle.ia32_rows.specs.Rows.{AreApart, read, write, operate, number_row, copy_row, operation, commuting}
use Rattle.ia32_rows.specs.Rows.{adding}
use Rattle.ia32_rows.specs.Effects.{Leads, Keeps, OutsideWord}
use Rattle.ia32_rows.specs.Contains.{Contains, IsPlaceIn, HoldsWord, Untouched, ApartFromPlace}

-- Where straight code is ready at EIP, the machine comes through it to what follows it, and passes no NOP.
abbrev pub StraightGoes : Type 0
StraightGoes =
    (site : Site) (items back : List Item) (s t : State) (address : ℕ) → SoundAt site s
    → ReadyAt site (items ++ back) (at_address address s) → Leads site items s t
    → (after : ℕ) × Comes site.text (at_address address s) (at_address after t) × ReadyAt site back (at_address after t)

-- ---- a register

-- a register other than ESP and EBP
abbrev pub IsWorking : Reg32 → Type 0
IsWorking t = (number32 Esp ≢ number32 t) × (number32 Ebp ≢ number32 t)

-- the items put a word into a register, and change nothing else
pub record Gives (site : Site) (frame : ℕ) (items : List Item) (t : Reg32) (w : ℕ) (s u : State) : Type 0 where
  pub leads : Leads site items s u
  pub value : word_of t u ≡ w
  pub framed : Framed site frame u
  pub keeps : Keeps (OutsideWord t) Anywhere s u

-- the word of a place to a register
abbrev pub ReadGives : Type 0
ReadGives =
    (site : Site) (frame : ℕ) (t : Reg32) (p : Place) (w : ℕ) (s : State) → Framed site frame s → IsWorking t
    → HoldsWord p → IsPlaceIn frame p → Contains s Two p w → w < 2 ^ 32
    → (u : State) × Gives site frame (read t p) t w s u

-- a byte of a register, with its sign, to a register
abbrev pub ExtendGives : Type 0
ExtendGives =
    (site : Site) (frame : ℕ) (t : Reg32) (r : Reg8) (b : ℕ) (s : State) → Framed site frame s → IsWorking t
    → Contains s One (InByte r) b → b < 256 → (u : State) × Gives site frame (read t (InByte r)) t (extended8 b) s u

-- all but CMP write their result
abbrev pub IsWriting : AluOp → Type 0
IsWriting alu.Add = ⊤
IsWriting alu.Or = ⊤
IsWriting alu.And = ⊤
IsWriting alu.Sub = ⊤
IsWriting alu.Xor = ⊤
IsWriting alu.Cmp = ⊥

-- an operation on a register with the word of a place
abbrev pub OperateGives : Type 0
OperateGives =
    (site : Site) (frame : ℕ) (how : AluOp) (t : Reg32) (p : Place) (x y : ℕ) (s : State) → Framed site frame s
    → IsWorking t → IsWriting how → HoldsWord p → IsPlaceIn frame p → word_of t s ≡ x → Contains s Two p y
    → alu_value how x y < 2 ^ 32 → (u : State) × Gives site frame (operate how t p) t (alu_value how x y) s u

-- ---- a place

-- the place holds a word, or its low byte where it is one for bytes; a slot holds both
abbrev pub HoldsLow : State → Place → ℕ → Type 0
HoldsLow s (InWord r) w = Contains s Two (InWord r) w
HoldsLow s (InByte r) w = Contains s One (InByte r) (w % 256)
HoldsLow s (InSlot k) w = Contains s Two (InSlot k) w × Contains s One (InSlot k) (w % 256)

-- The items put a word into a place. They change no other place of a variable: of the registers only the place's own,
-- ESI and EDI, and of the memory only the place's own and the word of scratch.
pub record Puts (site : Site) (frame : ℕ) (items : List Item) (p : Place) (w : ℕ) (s u : State) : Type 0 where
  pub leads : Leads site items s u
  pub holds : HoldsLow u p w
  pub framed : Framed site frame u
  pub keeps : Keeps (Untouched p) (ApartFromPlace (word_of Ebp s) p) s u

-- the word of a register to a place
abbrev pub WritePuts : Type 0
WritePuts =
    (site : Site) (frame : ℕ) (p : Place) (t : Reg32) (w : ℕ) (s : State) → Framed site frame s → 16 ≤ frame
    → IsPlaceIn frame p → word_of t s ≡ w → (u : State) × Puts site frame (write p t) p w s u

-- a number
abbrev pub NumberPuts : Type 0
NumberPuts =
    (site : Site) (frame : ℕ) (p : Place) (z : ℤ) (s : State) → Framed site frame s → IsPlaceIn frame p
    → cast_unsigned w32 z < 2 ^ 32 → (u : State) × Puts site frame (number_row p z) p (cast_unsigned w32 z) s u

-- a copy of a word
abbrev pub CopyPuts : Type 0
CopyPuts =
    (site : Site) (frame : ℕ) (p q : Place) (w : ℕ) (s : State) → Framed site frame s → HoldsWord p → IsPlaceIn frame p
    → HoldsWord q → IsPlaceIn frame q → Contains s Two q w → w < 2 ^ 32
    → (u : State) × Puts site frame (copy_row q p) p w s u

-- a copy of a byte to a byte of a register
abbrev pub CopyBytePuts : Type 0
CopyBytePuts =
    (site : Site) (frame : ℕ) (r : Reg8) (q : Place) (b : ℕ) (s : State) → Framed site frame s → IsPlaceIn frame q
    → Contains s One q b → b < 256 → (u : State) × Puts site frame (copy_row q (InByte r)) (InByte r) b s u

-- a copy of a byte to a slot, which holds a word with this low byte after it
abbrev pub CopyToSlotPuts : Type 0
CopyToSlotPuts =
    (site : Site) (frame k : ℕ) (q : Place) (b : ℕ) (s : State) → Framed site frame s → IsInFrame frame k
    → IsPlaceIn frame q → Contains s One q b → b < 256
    → (w : ℕ) × (w % 256 ≡ b) × (u : State) × Puts site frame (copy_row q (InSlot k)) (InSlot k) w s u

-- the result of an operation on the words of two places
abbrev pub OperationPuts : Type 0
OperationPuts =
    (site : Site) (frame : ℕ) (how : AluOp) (p q r : Place) (x y : ℕ) (s : State) → Framed site frame s → 16 ≤ frame
    → IsWriting how → IsPlaceIn frame p → HoldsWord q → IsPlaceIn frame q → HoldsWord r → IsPlaceIn frame r
    → Contains s Two q x → Contains s Two r y → x < 2 ^ 32 → y < 2 ^ 32 → alu_value how x y < 2 ^ 32
    → (u : State) × Puts site frame (operation how p q r) p (alu_value how x y) s u

-- the same, where the operands commute
abbrev pub CommutingPuts : Type 0
CommutingPuts =
    (site : Site) (frame : ℕ) (how : AluOp) (p q r : Place) (x y : ℕ) (s : State) → Framed site frame s → 16 ≤ frame
    → IsWriting how → alu_value how y x ≡ alu_value how x y → IsPlaceIn frame p → HoldsWord q → IsPlaceIn frame q
    → HoldsWord r → IsPlaceIn frame r → Contains s Two q x → Contains s Two r y → x < 2 ^ 32 → y < 2 ^ 32
    → alu_value how x y < 2 ^ 32 → (u : State) × Puts site frame (commuting how p q r) p (alu_value how x y) s u

-- the sum of the words of two places
abbrev pub SumPuts : Type 0
SumPuts =
    (site : Site) (frame : ℕ) (p q r : Place) (x y : ℕ) (s : State) → Framed site frame s → 16 ≤ frame
    → IsPlaceIn frame p → HoldsWord q → IsPlaceIn frame q → HoldsWord r → IsPlaceIn frame r → Contains s Two q x
    → Contains s Two r y → x < 2 ^ 32 → y < 2 ^ 32 → (u : State) × Puts site frame (adding p q r) p (sum x y) s u

-- ---- other places

-- no cell of a register is in both places, and no byte of the frame
abbrev pub ArePlacesApart : Place → Place → Type 0
ArePlacesApart (InWord r) (InWord q) = number32 r ≢ number32 q
ArePlacesApart (InWord r) (InByte q) = OutsideWord r (byte_place q)
ArePlacesApart (InWord r) (InSlot k) = ⊤
ArePlacesApart (InByte r) (InWord q) = OutsideWord q (byte_place r)
ArePlacesApart (InByte r) (InByte q) = byte_place r ≢ byte_place q
ArePlacesApart (InByte r) (InSlot k) = ⊤
ArePlacesApart (InSlot k) (InWord r) = ⊤
ArePlacesApart (InSlot k) (InByte r) = ⊤
ArePlacesApart (InSlot k) (InSlot b) = AreApart k b

-- another place contains what it did
abbrev pub OthersKept : Type 0
OthersKept =
    (site : Site) (frame : ℕ) (items : List Item) (p q : Place) (width : Width) (v w : ℕ) (s u : State)
    → Framed site frame s → Puts site frame items p v s u → IsPlaceIn frame p → IsPlaceIn frame q → ArePlacesApart p q
    → Contains s width q w → Contains u width q w
