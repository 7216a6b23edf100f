-- The laws of these rows, over places of any kind.
use Rattle.std.specs.Prelude.{◌≡◌, ◌≢◌, ◌+◌, ◌-◌, ◌*◌, ◌%◌, ◌^◌, ◌<◌, ◌≤◌, ◌⊎◌, [], ◌∷◌, ◌++◌, Bool, ℕ, List, Option, Some, None, Ok}
use Rattle.std.specs.Prelude.{Err, if◌then◌else◌}
use Rattle.pcc_base.specs.Outcome.{Trapped}
use Rattle.pcc_base.specs.declared.run.Trap.TheVariants.{Divide}
use Rattle.pcc_base.specs.declared.run.Width.TheVariants.{One, Two}
use Rattle.ia32_insn.specs.declared.register_names.Reg32.TheVariants.{Eax, Edx, Esp, Ebp, Esi}
use Rattle.ia32_insn.specs.declared.register_names.Reg8.TheVariants.{Cl}
use Rattle.ia32_insn.specs.Registers.{byte_place}
use Rattle.ia32_insn.specs.Places.{Place}
use Rattle.ia32_insn.specs.declared.insn.AluOp.TheVariants as alu
use Rattle.ia32_insn.specs.declared.operand.Rm32.{Rm32}
use Rattle.ia32_insn.specs.declared.insn.Cond.{Cond}
use Rattle.ia32_insn.specs.declared.insn.Insn.{Insn}
use Rattle.ia32_insn.specs.declared.insn.Insn.TheVariants as insn
use Rattle.ia32_insn.specs.declared.insn.ShiftOp.{ShiftOp}
use Rattle.ia32_insn.specs.declared.item.Item.{Item}
use Rattle.ia32_insn.specs.declared.item.Item.TheVariants as item
use Rattle.ia32_insn.specs.Keeps.{AreDisjoint}
use Rattle.ia32_insn.specs.State.{State, at_address}
use Rattle.ia32_insn.specs.Arithmetic.{alu_flags, divided, extended16, holds, shift_value, sign_word, signed_divided}
use Rattle.ia32_insn.specs.Meaning.{bit, effect, load, word_of}
use Rattle.ia32_rows.specs.Paths.{Comes}
use Rattle.ia32_rows.specs.Sites.{Anywhere, Framed, ReadyAt, Site, SoundAt, StandsFrom}
use Rattle.ia32_rows.specs.Rows.{before_division, branching, comparing, dividing, divisor_of, halving, lowering}
use Rattle.ia32_rows.specs.Rows.{jumping, pass, setting, shifting, zero_edx}
use Rattle.ia32_rows.specs.Effects.{Keeps, Leads, OutsideWord}
use Rattle.ia32_rows.specs.Contains.{ApartFromPlace, Contains, HoldsWord, IsPlaceIn, Untouched}
use Rattle.ia32_rows.specs.Laws.{HoldsLow, Puts}

-- the cells of registers that a shift leaves: all but CL
abbrev pub SparedByShift : ℕ → Type 0
SparedByShift k = k ≢ byte_place Cl

-- the cells of registers that a division leaves
abbrev pub SparedByDivision : ℕ → Type 0
SparedByDivision k = OutsideWord Eax k × OutsideWord Edx k

-- The items put a word into a place, as `Puts` says, and of the other cells of registers keep those that pass the test.
pub record PutsBeside (R : ℕ → Type 0) (site : Site) (frame : ℕ) (items : List Item) (p : Place) (w : ℕ)
    (s u : State) : Type 0 where
  pub leads : Leads site items s u
  pub holds : HoldsLow u p w
  pub framed : Framed site frame u
  pub keeps : Keeps (λ k. Untouched p k × R k) (ApartFromPlace (word_of Ebp s) p) s u

-- the word whose low byte is wanted, or that byte, comes to the result
abbrev pub LowPuts : Type 0
LowPuts =
    (site : Site) (frame : ℕ) (p q : Place) (x : ℕ) (s : State) → Framed site frame s → 16 ≤ frame → IsPlaceIn frame p
    → HoldsWord q → IsPlaceIn frame q → Contains s Two q x → x < 2 ^ 32
    → (u : State) × Puts site frame (lowering p q) p x s u

-- so do the low 16 bits with their sign
abbrev pub HalfPuts : Type 0
HalfPuts =
    (site : Site) (frame : ℕ) (p q : Place) (x : ℕ) (s : State) → Framed site frame s → 16 ≤ frame → IsPlaceIn frame p
    → HoldsWord q → IsPlaceIn frame q → Contains s Two q x → x < 2 ^ 32
    → (u : State) × Puts site frame (halving p q) p (extended16 (x % 2 ^ 16)) s u

-- a word shifted by a byte; but for the result's place CL alone changes
abbrev pub ShiftPuts : Type 0
ShiftPuts =
    (site : Site) (frame : ℕ) (how : ShiftOp) (p q c : Place) (x b : ℕ) (s : State) → Framed site frame s → 16 ≤ frame
    → IsPlaceIn frame p → HoldsWord q → IsPlaceIn frame q → IsPlaceIn frame c → Contains s Two q x → Contains s One c b
    → x < 2 ^ 32 → b < 256 → shift_value how x b < 2 ^ 32
    → (u : State) × PutsBeside SparedByShift site frame (shifting how p q c) p (shift_value how x b) s u

-- ---- comparisons

-- The items compare two words: the flags are those of CMP, and of all else only ESI changes.
pub record Compares (site : Site) (frame : ℕ) (items : List Item) (x y : ℕ) (s u : State) : Type 0 where
  pub leads : Leads site items s u
  pub framed : Framed site frame u
  pub flags : u.flags ≡ Some (alu_flags alu.Cmp x y)
  pub keeps : Keeps (OutsideWord Esi) Anywhere s u

abbrev pub PlacesCompare : Type 0
PlacesCompare =
    (site : Site) (frame : ℕ) (q r : Place) (x y : ℕ) (s : State) → Framed site frame s → HoldsWord q
    → IsPlaceIn frame q → HoldsWord r → IsPlaceIn frame r → Contains s Two q x → Contains s Two r y → x < 2 ^ 32
    → (u : State) × Compares site frame (comparing q r) x y s u

-- 1 comes to a place where the flags that CMP leaves of two words meet a condition, and 0 where they don't
abbrev pub SetPuts : Type 0
SetPuts =
    (site : Site) (frame : ℕ) (c : Cond) (t : Bool) (p q r : Place) (x y : ℕ) (s : State) → Framed site frame s
    → 16 ≤ frame → HoldsWord p → IsPlaceIn frame p → HoldsWord q → IsPlaceIn frame q → HoldsWord r
    → IsPlaceIn frame r → Contains s Two q x → Contains s Two r y → x < 2 ^ 32
    → holds c (Some (alu_flags alu.Cmp x y)) ≡ Some t
    → (u : State) × Puts site frame (setting c p q r) p (bit t) s u

-- The items at EIP lead to what stands behind a label: they are moves and a jump there, or, where there is nothing to
-- move, it stands here itself.
abbrev pub IsOnTheWay : Site → List Item → ℕ → List Item → State → Type 0
IsOnTheWay site moves label back s =
    ((more : List Item) × ReadyAt site (jumping moves label ++ more) s) ⊎ ((moves ≡ []) × ReadyAt site back s)

-- a branch comes on the way to what stands behind the label that the condition chooses
abbrev pub BranchGoes : Type 0
BranchGoes =
    (site : Site) (frame : ℕ) (c : Cond) (t : Bool) (detour : ℕ) (q r : Place) (to_taken to_other : List Item)
    (taken other x y : ℕ) (s : State) (address : ℕ) (front back rest : List Item) (start : ℕ)
    → Framed site frame s → HoldsWord q → IsPlaceIn frame q → HoldsWord r
    → IsPlaceIn frame r → Contains s Two q x → Contains s Two r y → x < 2 ^ 32
    → holds c (Some (alu_flags alu.Cmp x y)) ≡ Some t
    → ReadyAt site (branching c detour q r to_taken to_other taken other ++ rest) (at_address address s)
    → StandsFrom site (front ++ (item.Label (if t then taken else other) ∷ back)) start
    → (u : State) × Framed site frame u × Keeps (OutsideWord Esi) Anywhere s u
    × (after : ℕ) × Comes site.text (at_address address s) (at_address after u)
    × IsOnTheWay site (if t then to_taken else to_other) (if t then taken else other) back (at_address after u)

-- ---- divisions

-- whether a division takes its numbers with their signs
pub data Signedness : Type 0 where
  Signed : Signedness
  Unsigned : Signedness

-- the instruction that makes the upper word of the dividend, and the one that divides
abbrev pub upper_by : Signedness → Insn
upper_by Signed = insn.Cdq
upper_by Unsigned = zero_edx

abbrev pub divide_by : Signedness → Rm32 → Insn
divide_by Signed = insn.IDiv
divide_by Unsigned = insn.Div

-- the upper word, and the quotient and the remainder of the number that has it above a word
abbrev pub upper_word : Signedness → ℕ → ℕ
upper_word Signed x = sign_word x
upper_word Unsigned x = 0

abbrev pub divided_by : Signedness → ℕ → ℕ → Option (ℕ × ℕ)
divided_by Signed x y = signed_divided (sign_word x * 2 ^ 32 + x) y
divided_by Unsigned x y = divided (0 * 2 ^ 32 + x) y

-- The items before a division stop short of one that traps: they lead to a state, in which of all registers only EAX,
-- EDX and ESI changed, and in which the division traps, wherever EIP is.
pub record Traps (how : Signedness) (site : Site) (frame : ℕ) (q r : Place) (s u : State) : Type 0 where
  pub leads : Leads site (before_division (upper_by how) q r) s u
  pub framed : Framed site frame u
  pub keeps : Keeps (λ k. OutsideWord Esi k × SparedByDivision k) Anywhere s u
  pub traps : (address : ℕ) → effect (divide_by how (divisor_of r)) 0 (at_address address u) ≡ Err (Trapped Divide)

-- so where the words of two places have no quotient
abbrev pub DivisionStops : Type 0
DivisionStops =
    (how : Signedness) (site : Site) (frame : ℕ) (q r : Place) (x y : ℕ) (s : State) → Framed site frame s
    → HoldsWord q → IsPlaceIn frame q → HoldsWord r → IsPlaceIn frame r → Contains s Two q x → Contains s Two r y
    → x < 2 ^ 32 → y < 2 ^ 32 → divided_by how x y ≡ None → (u : State) × Traps how site frame q r s u

-- Where they have one, the quotient comes to a third place; but for that EAX and EDX alone change.
abbrev pub QuotientPuts : Type 0
QuotientPuts =
    (how : Signedness) (site : Site) (frame : ℕ) (p q r : Place) (x y v w : ℕ) (s : State) → Framed site frame s
    → 16 ≤ frame → IsPlaceIn frame p → HoldsWord q → IsPlaceIn frame q → HoldsWord r → IsPlaceIn frame r
    → Contains s Two q x → Contains s Two r y → x < 2 ^ 32 → y < 2 ^ 32 → divided_by how x y ≡ Some (v, w)
    → v < 2 ^ 32 → w < 2 ^ 32
    → (u : State) × PutsBeside SparedByDivision site frame
    (dividing (upper_by how) (divide_by how) Eax p q r) p v s u

-- so does the remainder
abbrev pub RemainderPuts : Type 0
RemainderPuts =
    (how : Signedness) (site : Site) (frame : ℕ) (p q r : Place) (x y v w : ℕ) (s : State) → Framed site frame s
    → 16 ≤ frame → IsPlaceIn frame p → HoldsWord q → IsPlaceIn frame q → HoldsWord r → IsPlaceIn frame r
    → Contains s Two q x → Contains s Two r y → x < 2 ^ 32 → y < 2 ^ 32 → divided_by how x y ≡ Some (v, w)
    → v < 2 ^ 32 → w < 2 ^ 32
    → (u : State) × PutsBeside SparedByDivision site frame
    (dividing (upper_by how) (divide_by how) Edx p q r) p w s u

-- ---- arguments

-- A word was pushed: it stands at ESP, four bytes lower (Intel manual, volume 2, PUSH). All other registers are kept,
-- and all memory but these four bytes.
pub record Passes (site : Site) (items : List Item) (w : ℕ) (s u : State) : Type 0 where
  pub leads : Leads site items s u
  pub sound : SoundAt site u
  pub esp : word_of Esp u + 4 ≡ word_of Esp s
  pub word : load 4 (word_of Esp s - 4) u ≡ Ok w
  pub byte : load 1 (word_of Esp s - 4) u ≡ Ok (w % 256)
  pub keeps : Keeps (OutsideWord Esp) (λ a n. AreDisjoint (word_of Esp s - 4) 4 a n) s u

-- the word of a place, as `putchar` gets it
abbrev pub WordPasses : Type 0
WordPasses =
    (site : Site) (frame : ℕ) (q : Place) (x : ℕ) (s : State) → Framed site frame s → HoldsWord q → IsPlaceIn frame q
    → Contains s Two q x → x < 2 ^ 32 → (u : State) × Passes site (pass q) x s u
