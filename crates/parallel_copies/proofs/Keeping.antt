-- What a step of the copies keeps: places that are apart from where it leads to.
use Rattle.std.proofs.Common.{◌≡◌, ◌≢◌, ℕ, ◌+◌, ◌-◌, ◌*◌, ◌<◌, ◌≤◌, List, [], ◌∷◌, Ok, refl, sym, subst, ◌∙◌, inl, inr}
use Rattle.std.proofs.Common.{arith}
use Rattle.std.specs.Prelude.{⊤, ◌⊎◌, true}
use Rattle.std.specs.List.{AllByRecursion}
use Rattle.pcc_base.specs.declared.run.Width.{Width}
use Rattle.pcc_base.specs.declared.run.Width.TheVariants.{One, Two}
use Rattle.ia32_insn.specs.declared.register_names.Reg32.{Reg32}
use Rattle.ia32_insn.specs.declared.register_names.Reg32.TheVariants.{Eax, Ecx, Edx, Ebx, Esp, Ebp, Esi, Edi}
use Rattle.ia32_insn.specs.Registers.{number32, byte_place}
use Rattle.ia32_insn.specs.Places.{Place, InWord, InByte, InSlot, IsGeneral}
use Rattle.ia32_insn.specs.State.{State}
use Rattle.ia32_insn.specs.Meaning.{load, word_of}
use Rattle.ia32_insn.specs.Keeps.{AreDisjoint}
use Rattle.ia32_rows.specs.Sites.{Site, Framed, Anywhere}
use Rattle.ia32_rows.specs.Rows.{AreApart}
use Rattle.ia32_rows.specs.Effects.{Keeps, OutsideWord}
use Rattle.ia32_rows.specs.Contains.{Contains, OutsidePlace}
use Rattle.ia32_rows.specs.Laws.{ArePlacesApart}
use Rattle.ia32_rows.proofs.Kept.{HasCells, PlaceHasCells, PlaceHasMemory, contains-kept, keeps-then, keeps-stricter}
use Rattle.ia32_rows.proofs.Kept.{other-cells, word-kept}
use Rattle.ia32_rows.proofs.Moves.{general-below, general-works, byte-below}
use Rattle.parallel_copies.specs.declared.moves.Move.{Move}
use Rattle.parallel_copies.specs.Copies.{ApartFromAll, ApartFromTarget, Holds, IsInside, IsPlaceFor, OutsideAll, size_of}
use Rattle.parallel_copies.specs.Copies.{source, target}
use Rattle.parallel_copies.specs.Steps.{IsScratch, IsWaiting}
use Rattle.parallel_copies.proofs.Lists.{all-map, all-two, all-pairs}
use Rattle.parallel_copies.proofs.Single.{CanTake, OutsideBoth}

-- ---- cells

word-cells : (n m b : ℕ) → m < 4 → (b < 4 * n) ⊎ (4 * n + 4 ≤ b) → 4 * n + m ≡ b → ⊥
word-cells n m b below (inl h) e = omega arith
word-cells n m b below (inr h) e = omega arith

pub place-cells : (p q : Place) → ArePlacesApart p q → PlaceHasCells (OutsidePlace q) p
place-cells (InWord r) (InWord q) h = other-cells r q h
place-cells (InWord r) (InByte q) h = λ m below e. word-cells (number32 r) m (byte_place q) below h e
place-cells (InWord r) (InSlot k) h = λ m below. tt
place-cells (InByte r) (InWord q) h = h
place-cells (InByte r) (InByte q) h = h
place-cells (InByte r) (InSlot k) h = tt
place-cells (InSlot k) q h = tt

disjoint : (frame base size k j n : ℕ) → size ≤ 4 → n ≤ 4 → AreApart k j → 4 ≤ k → k ≤ frame → 4 ≤ j → j ≤ frame
    → frame ≤ base → AreDisjoint (base - j) size (base - k) n
disjoint frame base size k j n small few (inl h) a b c d low = inl (omega arith)
disjoint frame base size k j n small few (inr h) a b c d low = inr (omega arith)

size-small : (width : Width) → size_of width ≤ 4
size-small One = omega arith
size-small Two = omega arith

pub place-memory : (frame base : ℕ) (width : Width) (p q : Place) → ArePlacesApart p q → IsInside frame p
    → IsInside frame q → frame ≤ base → PlaceHasMemory (ApartFromTarget base width q) base p
place-memory frame base width (InWord r) q h inside other low = tt
place-memory frame base width (InByte r) q h inside other low = tt
place-memory frame base width (InSlot k) (InWord r) h inside other low = (tt, tt)
place-memory frame base width (InSlot k) (InByte r) h inside other low = (tt, tt)
place-memory frame base width (InSlot k) (InSlot j) h inside other low =
    let small = size-small width in (
      disjoint frame base (size_of width) k j 4 small (omega arith) h inside.0 inside.1 other.0 other.1 low,
      disjoint frame base (size_of width) k j 1 small (omega arith) h inside.0 inside.1 other.0 other.1 low,
    )

-- the frame lies above address 0
pub frame-below : (site : Site) (frame : ℕ) (s : State) → Framed site frame s → frame ≤ word_of Ebp s
frame-below site frame s framed = let esp = framed.esp in omega arith

-- a place for a variable can take a number
pub can-take : (word : ℕ) (width : Width) (p : Place) → IsPlaceFor word width p → CanTake width p
can-take word Two (InWord r) h = general-works r h
can-take word Two (InByte r) h = h
can-take word Two (InSlot k) h = tt
can-take word One (InWord r) h = h
can-take word One (InByte r) h = tt
can-take word One (InSlot k) h = tt

-- ESP and EBP are no such place's
pub stack-cells : (width : Width) (p : Place) → CanTake width p
    → HasCells (OutsidePlace p) Esp × HasCells (OutsidePlace p) Ebp
stack-cells Two (InWord r) h = (other-cells Esp r h.0, other-cells Ebp r h.1)
stack-cells Two (InByte r) h = absurd h
stack-cells Two (InSlot k) h = ((λ m below. tt), (λ m below. tt))
stack-cells One (InWord r) h = absurd h
stack-cells One (InByte r) h =
    let b = byte-below r in ((λ m below e. omega (arith, e)), (λ m below e. omega (arith, e)))
stack-cells One (InSlot k) h = ((λ m below. tt), (λ m below. tt))

-- ---- one place is written

-- a place that is apart from it contains what it did
pub contains-beside : (site : Site) (frame : ℕ) (s u : State) (to_width : Width) (to : Place) → Framed site frame s
    → CanTake to_width to → IsInside frame to
    → Keeps (OutsidePlace to) (ApartFromTarget (word_of Ebp s) to_width to) s u
    → (width : Width) (p : Place) (n : ℕ) → ArePlacesApart p to → IsInside frame p → Contains s width p n
    → Contains u width p n
contains-beside site frame s u to_width to framed takes to_inside keeps width p n h inside contains =
    contains-kept (OutsidePlace to) (ApartFromTarget (word_of Ebp s) to_width to) s u width p n keeps
    (stack-cells to_width to takes).1 (place-cells p to h)
    (place-memory frame (word_of Ebp s) to_width p to h inside to_inside (frame-below site frame s framed)) contains

-- ---- two registers are exchanged

both-cells : (p q x : Place) → PlaceHasCells (OutsidePlace p) x → PlaceHasCells (OutsidePlace q) x
    → PlaceHasCells (OutsideBoth p q) x
both-cells p q (InWord r) a b = λ m below. (a m below, b m below)
both-cells p q (InByte r) a b = (a, b)
both-cells p q (InSlot k) a b = tt

any-memory : (base : ℕ) (p : Place) → PlaceHasMemory Anywhere base p
any-memory base (InWord r) = tt
any-memory base (InByte r) = tt
any-memory base (InSlot k) = (tt, tt)

-- a place that is apart from both contains what it did
pub contains-beside_both : (s u : State) (first second : Place) → HasCells (OutsideBoth first second) Ebp
    → Keeps (OutsideBoth first second) Anywhere s u
    → (width : Width) (p : Place) (n : ℕ) → ArePlacesApart p first → ArePlacesApart p second → Contains s width p n
    → Contains u width p n
contains-beside_both s u first second ebp keeps width p n a b contains =
    contains-kept (OutsideBoth first second) Anywhere s u width p n keeps ebp
    (both-cells first second p (place-cells p first a) (place-cells p second b)) (any-memory (word_of Ebp s) p) contains

-- ---- the moves that are left

-- a place for a variable is apart from scratch
pub scratch-apart : (word : ℕ) (width : Width) (p : Place) → IsPlaceFor word width p
    → ArePlacesApart p (InWord Esi) × ArePlacesApart p (InWord Edi) × ArePlacesApart p (InSlot word)
scratch-apart word Two (InWord r) h =
    let b = general-below r h in ((λ e. omega (arith, e)), (λ e. omega (arith, e)), tt)
scratch-apart word Two (InByte r) h = absurd h
scratch-apart word Two (InSlot k) h = (tt, tt, h.0)
scratch-apart word One (InWord r) h = absurd h
scratch-apart word One (InByte r) h =
    let b = byte-below r in (inl (omega arith), inl (omega arith), tt)
scratch-apart word One (InSlot k) h = (tt, tt, h.0)

all-cells : (waiting : List Move) (p : Place) → AllByRecursion (λ n. ArePlacesApart p (target n)) waiting
    → PlaceHasCells (OutsideWord Esi) p → PlaceHasCells (OutsideWord Edi) p → PlaceHasCells (OutsideAll waiting) p
all-cells waiting (InWord r) h esi edi =
    λ m below. (
      all-map (λ n. ArePlacesApart (InWord r) (target n)) (λ n. OutsidePlace (target n) (4 * number32 r + m)) waiting
          (λ n apart. place-cells (InWord r) (target n) apart m below) h,
      esi m below,
      edi m below,
    )
all-cells waiting (InByte r) h esi edi = (
  all-map (λ n. ArePlacesApart (InByte r) (target n)) (λ n. OutsidePlace (target n) (byte_place r)) waiting
      (λ n apart. place-cells (InByte r) (target n) apart) h,
  esi,
  edi,
)
all-cells waiting (InSlot k) h esi edi = tt

all-memory : (frame base word : ℕ) (waiting : List Move) (p : Place)
    → AllByRecursion (λ n. ArePlacesApart p (target n) × IsInside frame (target n)) waiting
    → ArePlacesApart p (InSlot word) → IsInside frame p → 4 ≤ word → word ≤ frame → frame ≤ base
    → PlaceHasMemory (ApartFromAll base word waiting) base p
all-memory frame base word waiting (InWord r) h scratch inside low high above = tt
all-memory frame base word waiting (InByte r) h scratch inside low high above = tt
all-memory frame base word waiting (InSlot k) h scratch inside low high above =
    let last = place-memory frame base Two (InSlot k) (InSlot word) scratch inside (low, high) above in (
      (
        all-map (λ n. ArePlacesApart (InSlot k) (target n) × IsInside frame (target n))
            (λ n. ApartFromTarget base n.width (target n) (base - k) 4) waiting
            (λ n q. (place-memory frame base n.width (InSlot k) (target n) q.0 inside q.1 above).0) h,
        last.0,
      ),
      (
        all-map (λ n. ArePlacesApart (InSlot k) (target n) × IsInside frame (target n))
            (λ n. ApartFromTarget base n.width (target n) (base - k) 1) waiting
            (λ n q. (place-memory frame base n.width (InSlot k) (target n) q.0 inside q.1 above).1) h,
        last.1,
      ),
    )

-- EBP isn't changed by them
pub ebp-cells : (word : ℕ) (waiting : List Move) → AllByRecursion (IsWaiting word) waiting
    → HasCells (OutsideAll waiting) Ebp
ebp-cells word waiting h m below = (
  all-map (IsWaiting word) (λ n. OutsidePlace (target n) (4 * number32 Ebp + m)) waiting
      (λ n w. (stack-cells n.width (target n) (can-take word n.width (target n) w.to_fits)).1 m below) h,
  other-cells Ebp Esi (λ e. omega (arith, e)) m below,
  other-cells Ebp Edi (λ e. omega (arith, e)) m below,
)

-- a place to which none of them leads contains what it did
pub contains-after : (site : Site) (frame word : ℕ) (waiting : List Move) (s t : State) → Framed site frame s
    → 4 ≤ word → word ≤ frame → AllByRecursion (IsWaiting word) waiting
    → AllByRecursion (Holds frame s) waiting
    → Keeps (OutsideAll waiting) (ApartFromAll (word_of Ebp s) word waiting) s t
    → (width : Width) (p : Place) (n : ℕ) → IsPlaceFor word width p → IsInside frame p
    → AllByRecursion (λ m. ArePlacesApart p (target m)) waiting → Contains s width p n → Contains t width p n
contains-after site frame word waiting s t framed low high waits holds keeps width p n fits inside apart contains =
    let scratch = scratch-apart word width p fits in
    let above = frame-below site frame s framed in
    contains-kept (OutsideAll waiting) (ApartFromAll (word_of Ebp s) word waiting) s t width p n keeps
    (ebp-cells word waiting waits)
    (all-cells waiting p apart (place-cells p (InWord Esi) scratch.0) (place-cells p (InWord Edi) scratch.1))
    (all-memory frame (word_of Ebp s) word waiting p
    (all-two (λ m. ArePlacesApart p (target m)) (Holds frame s)
    (λ m. ArePlacesApart p (target m) × IsInside frame (target m)) waiting (λ m a h. (a, h.to_inside)) apart holds)
    scratch.2 inside low high above) contains

-- what was kept first, and then by the moves that are left
pub keeps-rest : (word : ℕ) (moves waiting : List Move) (s u t : State) → word_of Ebp u ≡ word_of Ebp s
    → Keeps (OutsideAll moves) (ApartFromAll (word_of Ebp s) word moves) s u
    → ((k : ℕ) → OutsideAll moves k → OutsideAll waiting k)
    → ((base a n : ℕ) → ApartFromAll base word moves a n → ApartFromAll base word waiting a n)
    → Keeps (OutsideAll waiting) (ApartFromAll (word_of Ebp u) word waiting) u t
    → Keeps (OutsideAll moves) (ApartFromAll (word_of Ebp s) word moves) s t
keeps-rest word moves waiting s u t base first cells memory rest =
    keeps-then (OutsideAll moves) (ApartFromAll (word_of Ebp s) word moves) s u t first
    (keeps-stricter (OutsideAll waiting) (OutsideAll moves) (ApartFromAll (word_of Ebp s) word waiting)
    (ApartFromAll (word_of Ebp s) word moves) u t cells (λ a n h. memory (word_of Ebp s) a n h)
    (subst (λ (e : ℕ). Keeps (OutsideAll waiting) (ApartFromAll e word waiting) u t) base rest))

-- ---- what a place contains

-- one number
pub contains-once : (s : State) (width : Width) (p : Place) (a b : ℕ) → Contains s width p a → Contains s width p b
    → a ≡ b
contains-once s Two (InWord r) a b e f = sym e ∙ f
contains-once s Two (InByte r) a b e f = absurd e
contains-once s Two (InSlot k) a b e f = cc
contains-once s One (InWord r) a b e f = absurd e
contains-once s One (InByte r) a b e f = sym e ∙ f
contains-once s One (InSlot k) a b e f = cc
