-- One step of the copies after another: what waits, which step may come next, and what a step comes to.
use Rattle.std.specs.Prelude.{◌≡◌, ◌≤◌, ◌<◌, ◌+◌, ◌^◌, ⊤, ◌⊎◌, ℕ, Bool, true, false, not, ◌&&◌, ◌||◌, List, [], ◌∷◌, ◌++◌}
use Rattle.std.specs.Prelude.{Option, Some, None, length, map, slice_get, if◌then◌else◌}
use Rattle.std.specs.List.{AllByRecursion, list_all, list_any}
use Rattle.pcc_base.specs.declared.run.Width.{Width}
use Rattle.pcc_base.specs.declared.run.Width.TheVariants.{One, Two}
use Rattle.ia32_insn.specs.declared.register_names.Reg32.TheVariants.{Eax, Ecx, Edx, Ebx, Esp, Ebp, Esi, Edi}
use Rattle.ia32_insn.specs.Places.{Place, InWord, InByte, InSlot}
use Rattle.ia32_insn.specs.declared.operand.Rm32.TheVariants as rm
use Rattle.ia32_insn.specs.declared.operand.Rm8.TheVariants as rm8
use Rattle.ia32_insn.specs.declared.insn.Insn.{Insn}
use Rattle.ia32_insn.specs.declared.insn.Insn.TheVariants as insn
use Rattle.ia32_insn.specs.State.{State}
use Rattle.ia32_insn.specs.Meaning.{word_of}
use Rattle.ia32_insn.specs.Items.{plain}
use Rattle.ia32_rows.specs.Placements.{below}
use Rattle.ia32_rows.specs.Sites.{Site, Framed}
use Rattle.ia32_insn.specs.Spelling.{HasSpelling}
use Rattle.ia32_rows.specs.Effects.{IsStraight, Leads}
use Rattle.ia32_emit.specs.Locations.{place_of}
use Rattle.ia32_emit.specs.declared.locations.Location.{Location}
use Rattle.parallel_copies.specs.declared.moves.Move.{Move}
use Rattle.parallel_copies.specs.declared.choice.Step.{Step}
use Rattle.parallel_copies.specs.declared.choice.Step.TheVariants as step
use Rattle.parallel_copies.specs.Overlap.{overlap, is_same, is_general, is_idle}
use Rattle.parallel_copies.specs.Copies.{source, target, IsPlaceFor, AreAllBeside, Holds, Copied}

-- ---- moves that wait

-- the place is scratch: ESI, EDI or the word of the frame
abbrev pub IsScratch : ℕ → Width → Place → Type 0
IsScratch word Two (InWord Eax) = ⊥
IsScratch word Two (InWord Ecx) = ⊥
IsScratch word Two (InWord Edx) = ⊥
IsScratch word Two (InWord Ebx) = ⊥
IsScratch word Two (InWord Esp) = ⊥
IsScratch word Two (InWord Ebp) = ⊥
IsScratch word Two (InWord Esi) = ⊤
IsScratch word Two (InWord Edi) = ⊤
IsScratch word Two (InByte r) = ⊥
IsScratch word Two (InSlot k) = k ≡ word
IsScratch word One p = ⊥

-- they aren't both slots
abbrev pub NotSlots : Place → Place → Type 0
NotSlots (InSlot k) (InSlot j) = ⊥
NotSlots (InSlot k) (InWord r) = ⊤
NotSlots (InSlot k) (InByte r) = ⊤
NotSlots (InWord r) q = ⊤
NotSlots (InByte r) q = ⊤

-- the move changes something
abbrev pub is_busy : Move → Bool
is_busy m = not (is_idle (source m) (target m))

-- a move that waits, whose word may stand in scratch by now
pub record IsWaiting (word : ℕ) (m : Move) : Type 0 where
  pub from_fits : IsPlaceFor word m.width (source m) ⊎ IsScratch word m.width (source m)
  pub to_fits : IsPlaceFor word m.width (target m)
  pub slots : NotSlots (source m) (target m)

pub record AreWaiting (word : ℕ) (waiting : List Move) : Type 0 where
  pub short : word ≤ 2 ^ 31
  pub each : AllByRecursion (IsWaiting word) waiting
  pub beside : AreAllBeside waiting

-- how many instructions a move may still take: a word in a general register may go to scratch first
abbrev pub weight_of : Move → ℕ
weight_of m = if is_general (source m) then 2 else 1

abbrev pub weight : List Move → ℕ
weight [] = 0
weight (m ∷ waiting) = weight_of m + weight waiting

-- ---- which step may come next

-- another move doesn't keep a move waiting: it comes from no part of where that leads to
abbrev pub lets : Move → Move → Bool
lets m n = overlap (target n) (target m) || not (overlap (source n) (target m))

-- it comes from where that leads to, or from no part of it
abbrev pub is_whole : Move → Move → Bool
is_whole m n = is_same (source n) (target m) || not (overlap (source n) (target m))

-- nothing that another move waits for stands where the move leads to
abbrev pub is_free : Move → List Move → Bool
is_free m waiting =
    is_same (source m) (target m) || list_all (lets m) waiting

-- The places may be exchanged: a move comes from where the move leads to, one leads to where it comes from, and none
-- comes from a part of the former.
abbrev pub is_exchangeable : Move → List Move → Bool
is_exchangeable m waiting =
    not (is_same (source m) (target m)) && list_any (λ n. is_same (target n) (source m)) waiting
    && list_any (λ n. is_same (source n) (target m)) waiting
    && list_all (is_whole m) waiting

-- a word that may go to scratch
abbrev pub is_savable : Move → Bool
is_savable m = is_general (source m) && is_general (target m)

abbrev pub is_taken : Place → List Move → Bool
is_taken p waiting = list_any (λ n. overlap (source n) p) waiting

-- no step where nothing waits, else one that may come next
abbrev pub IsNext : ℕ → List Move → Option Step → Type 0
IsNext word waiting None = waiting ≡ []
IsNext word waiting (Some (step.Copy i)) = (m : Move) × (slice_get waiting i ≡ Some m) × (is_free m waiting ≡ true)
IsNext word waiting (Some (step.Swap i)) =
    (m : Move) × (slice_get waiting i ≡ Some m) × (is_exchangeable m waiting ≡ true)
IsNext word waiting (Some (step.Save i scratch)) =
    (m : Move) × (slice_get waiting i ≡ Some m) × (is_savable m ≡ true) × IsScratch word Two (place_of scratch)
    × (is_taken (place_of scratch) waiting ≡ false)

-- ---- what a step comes to

-- one instruction that copies from a place to another; there is none for two slots, or for a word and a byte
abbrev pub copy_insn : Place → Place → Insn
copy_insn (InWord s) (InWord d) = insn.Mov (rm.Reg d) s
copy_insn (InWord s) (InByte d) = insn.Nop
copy_insn (InWord s) (InSlot k) = insn.Mov (rm.Mem (below k)) s
copy_insn (InByte s) (InWord d) = insn.Nop
copy_insn (InByte s) (InByte d) = insn.Mov8 (rm8.Reg d) s
copy_insn (InByte s) (InSlot k) = insn.Mov8 (rm8.Mem (below k)) s
copy_insn (InSlot k) (InWord d) = insn.MovLoad d (below k)
copy_insn (InSlot k) (InByte d) = insn.Mov8Load d (below k)
copy_insn (InSlot k) (InSlot j) = insn.Nop

-- one that exchanges two registers, or two bytes of registers
abbrev pub swap_insn : Place → Place → Insn
swap_insn (InWord s) (InWord d) = insn.Xchg (rm.Reg d) s
swap_insn (InWord s) (InByte d) = insn.Nop
swap_insn (InWord s) (InSlot k) = insn.Nop
swap_insn (InByte s) (InWord d) = insn.Nop
swap_insn (InByte s) (InByte d) = insn.Xchg8 (rm8.Reg d) s
swap_insn (InByte s) (InSlot k) = insn.Nop
swap_insn (InSlot k) q = insn.Nop

-- what comes from one register comes from another place
abbrev pub redirected : Location → Location → Move → Move
redirected old new m = if is_same (source m) (place_of old) then record m { from = new } else m

-- the instructions lead to a state from which the waiting moves, made at once, give what all gave from the first state
pub record Came (moves waiting : List Move) (word : ℕ) (site : Site) (frame : ℕ) (insns : List Insn) (s u : State)
    : Type 0 where
  pub leads : Leads site (map plain insns) s u
  pub framed : Framed site frame u
  pub holds : AllByRecursion (Holds frame u) waiting
  pub rest : (t : State) → Copied waiting word u t → Copied moves word s t

abbrev pub Reaches : ℕ → List Move → List Move → List Insn → Type 0
Reaches word moves waiting insns =
    (site : Site) (frame : ℕ) (s : State) → Framed site frame s → 4 ≤ word → word ≤ frame
    → AllByRecursion (Holds frame s) moves → (u : State) × Came moves waiting word site frame insns s u

-- a step from waiting moves and instructions to others
pub record Advances (word : ℕ) (old new : List Move) (before after : List Insn) : Type 0 where
  pub added : List Insn
  pub joined : after ≡ before ++ added
  pub room : length added + weight new ≤ weight old
  pub lighter : weight new < weight old
  pub waiting : AreWaiting word new
  pub straight : AllByRecursion IsStraight added
  pub spelled : AllByRecursion HasSpelling added
  pub reaches : Reaches word old new added

-- all three words of scratch are taken
pub record AreTaken (word : ℕ) (waiting : List Move) : Type 0 where
  pub esi : is_taken (InWord Esi) waiting ≡ true
  pub edi : is_taken (InWord Edi) waiting ≡ true
  pub slot : is_taken (InSlot word) waiting ≡ true
