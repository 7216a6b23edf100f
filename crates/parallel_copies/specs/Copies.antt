-- Moves that are made all at once.
use Rattle.std.specs.Prelude.{◌≡◌, ◌-◌, ◌^◌, ◌<◌, ◌≤◌, ⊤, ℕ, List, [], ◌∷◌, map}
use Rattle.std.specs.List.{AllByRecursion}
use Rattle.pcc_base.specs.declared.run.Width.{Width}
use Rattle.pcc_base.specs.declared.run.Width.TheVariants.{One, Two}
use Rattle.ia32_insn.specs.declared.register_names.Reg32.TheVariants.{Ebp, Esi, Edi}
use Rattle.ia32_insn.specs.Places.{Place, InWord, InByte, InSlot, IsGeneral}
use Rattle.ia32_insn.specs.declared.insn.Insn.{Insn}
use Rattle.ia32_insn.specs.State.{State}
use Rattle.ia32_insn.specs.Meaning.{word_of}
use Rattle.ia32_insn.specs.Keeps.{AreDisjoint}
use Rattle.ia32_insn.specs.Items.{plain}
use Rattle.ia32_rows.specs.Sites.{Site, Framed}
use Rattle.ia32_rows.specs.Rows.{AreApart}
use Rattle.ia32_rows.specs.Effects.{Leads, Keeps, OutsideWord}
use Rattle.ia32_rows.specs.Contains.{Contains, OutsidePlace}
use Rattle.ia32_rows.specs.Laws.{ArePlacesApart}
use Rattle.ia32_emit.specs.Locations.{place_of}
use Rattle.parallel_copies.specs.declared.moves.Move.{Move}

-- where a move comes from, and where it leads to
abbrev pub source : Move → Place
source m = place_of m.from

abbrev pub target : Move → Place
target m = place_of m.to

-- ---- moves that can be made at once

-- A slot has no byte in common with the word of scratch, and its distance below EBP is one of 32 bits.
abbrev pub IsSlotFor : ℕ → ℕ → Type 0
IsSlotFor word k = AreApart k word × (k ≤ 2 ^ 31)

-- The place is one for a variable of that width, where the word of scratch is so far below EBP: a general register, a byte
-- of one, or a slot.
abbrev pub IsPlaceFor : ℕ → Width → Place → Type 0
IsPlaceFor word Two (InWord r) = IsGeneral r
IsPlaceFor word Two (InByte r) = ⊥
IsPlaceFor word Two (InSlot k) = IsSlotFor word k
IsPlaceFor word One (InWord r) = ⊥
IsPlaceFor word One (InByte r) = ⊤
IsPlaceFor word One (InSlot k) = IsSlotFor word k

-- where both places are slots, they are one
abbrev pub AreOneSlot : Place → Place → Type 0
AreOneSlot (InSlot k) (InSlot j) = k ≡ j
AreOneSlot (InSlot k) (InWord r) = ⊤
AreOneSlot (InSlot k) (InByte r) = ⊤
AreOneSlot (InWord r) q = ⊤
AreOneSlot (InByte r) q = ⊤

-- where both places are slots, they have no byte in common
abbrev pub AreSlotsApart : Place → Place → Type 0
AreSlotsApart (InSlot k) (InSlot j) = AreApart k j
AreSlotsApart (InSlot k) (InWord r) = ⊤
AreSlotsApart (InSlot k) (InByte r) = ⊤
AreSlotsApart (InWord r) q = ⊤
AreSlotsApart (InByte r) q = ⊤

-- a move that leaves no slot for another
pub record IsMove (word : ℕ) (m : Move) : Type 0 where
  pub from_fits : IsPlaceFor word m.width (source m)
  pub to_fits : IsPlaceFor word m.width (target m)
  pub slots : AreOneSlot (source m) (target m)

-- two moves: the places that they come from have no byte in common, nor have those that they lead to, and no slot stands
-- in both
pub record AreBeside (m n : Move) : Type 0 where
  pub sources : ArePlacesApart (source m) (source n)
  pub targets : ArePlacesApart (target m) (target n)
  pub from_to : AreSlotsApart (source m) (target n)
  pub to_from : AreSlotsApart (target m) (source n)

abbrev pub AreAllBeside : List Move → Type 0
AreAllBeside [] = ⊤
AreAllBeside (m ∷ moves) = AllByRecursion (AreBeside m) moves × AreAllBeside moves

pub record AreMoves (word : ℕ) (moves : List Move) : Type 0 where
  pub short : word ≤ 2 ^ 31
  pub each : AllByRecursion (IsMove word) moves
  pub beside : AreAllBeside moves

-- ---- copies

-- the number fits the width
abbrev pub Fits : Width → ℕ → Type 0
Fits One n = n < 2 ^ 8
Fits Two n = n < 2 ^ 32

-- a slot lies in a frame of so many bytes
abbrev pub IsInside : ℕ → Place → Type 0
IsInside frame (InWord r) = ⊤
IsInside frame (InByte r) = ⊤
IsInside frame (InSlot k) = (4 ≤ k) × (k ≤ frame)

-- the place that the move comes from has a number of its width, and its slots lie in the frame
pub record Holds (frame : ℕ) (s : State) (m : Move) : Type 0 where
  pub number : ℕ
  pub contains : Contains s m.width (source m) number
  pub fits : Fits m.width number
  pub from_inside : IsInside frame (source m)
  pub to_inside : IsInside frame (target m)

-- what the first state has where the move comes from, the second has where it leads to
abbrev pub Moves : State → State → Move → Type 0
Moves s t m = (n : ℕ) → Contains s m.width (source m) n → Contains t m.width (target m) n

-- how many bytes of a slot a width takes
abbrev pub size_of : Width → ℕ
size_of One = 1
size_of Two = 4

-- the places in memory (address and length) that are apart from a place, where EBP is this
abbrev pub ApartFromTarget : ℕ → Width → Place → ℕ → ℕ → Type 0
ApartFromTarget base width (InWord r) a n = ⊤
ApartFromTarget base width (InByte r) a n = ⊤
ApartFromTarget base width (InSlot k) a n = AreDisjoint (base - k) (size_of width) a n

-- the cells of registers to which no move leads, and which aren't scratch
abbrev pub OutsideAll : List Move → ℕ → Type 0
OutsideAll moves k = AllByRecursion (λ m. OutsidePlace (target m) k) moves × OutsideWord Esi k × OutsideWord Edi k

-- the places in memory that are apart from those to which moves lead, and from the word of scratch
abbrev pub ApartFromAll : ℕ → ℕ → List Move → ℕ → ℕ → Type 0
ApartFromAll base word moves a n =
    AllByRecursion (λ m. ApartFromTarget base m.width (target m) a n) moves × AreDisjoint (base - word) 4 a n

-- Between the two states each place to which a move leads got what the place that it comes from had in the first. Nothing
-- else has changed but ESI, EDI, the word of scratch and the flags.
pub record Copied (moves : List Move) (word : ℕ) (s t : State) : Type 0 where
  pub moved : AllByRecursion (Moves s t) moves
  pub keeps : Keeps (OutsideAll moves) (ApartFromAll (word_of Ebp s) word moves) s t

-- The instructions make the moves all at once, in every frame that has the slots and the word of scratch.
abbrev pub CopyAtOnce : List Move → ℕ → List Insn → Type 0
CopyAtOnce moves word insns =
    (site : Site) (frame : ℕ) (s : State) → Framed site frame s → 4 ≤ word → word ≤ frame
    → AllByRecursion (Holds frame s) moves
    → (t : State) × Leads site (map plain insns) s t × Framed site frame t × Copied moves word s t
