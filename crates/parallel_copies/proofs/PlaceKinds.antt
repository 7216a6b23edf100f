-- What is known of the places of moves that wait, by their kinds.
use Rattle.std.proofs.Common.{◌≡◌, ◌≢◌, ℕ, ◌+◌, ◌-◌, ◌<◌, ◌≤◌, Bool, true, false, List, [], ◌∷◌, refl, sym, subst, ◌∙◌, inl}
use Rattle.std.proofs.Common.{inr, arith}
use Rattle.std.specs.Prelude.{⊤, ◌⊎◌, ◌&&◌, ◌||◌, not, if◌then◌else◌}
use Rattle.pcc_base.specs.declared.run.Width.{Width}
use Rattle.pcc_base.specs.declared.run.Width.TheVariants.{One, Two}
use Rattle.ia32_insn.specs.declared.register_names.Reg32.{Reg32}
use Rattle.ia32_insn.specs.declared.register_names.Reg32.TheVariants.{Eax, Ecx, Edx, Ebx, Esp, Ebp, Esi, Edi}
use Rattle.ia32_insn.specs.Registers.{number32, number8, byte_place}
use Rattle.ia32_insn.specs.Places.{Place, InWord, InByte, InSlot, IsGeneral}
use Rattle.ia32_insn.specs.Keeps.{AreDisjoint}
use Rattle.ia32_rows.specs.Effects.{OutsideWord}
use Rattle.ia32_rows.specs.Contains.{OutsidePlace}
use Rattle.ia32_rows.specs.Laws.{IsWorking}
use Rattle.ia32_rows.proofs.Moves.{general-works, unlike}
use Rattle.parallel_copies.specs.Overlap.{is_same, is_general}
use Rattle.parallel_copies.specs.Copies.{ApartFromTarget, AreSlotsApart, IsInside, IsPlaceFor}
use Rattle.parallel_copies.specs.Steps.{IsScratch, NotSlots}
use Rattle.parallel_copies.proofs.Apart.{slots-flip, other-byte}
use Rattle.parallel_copies.proofs.Single.{AreOther, CanExchange, CanTake}

-- ---- tests

pub or-second : (a b : Bool) → (a || b) ≡ true → a ≡ false → b ≡ true
or-second true b e f = cc
or-second false b e f = e

pub not-true : (b : Bool) → not b ≡ true → b ≡ false
not-true true e = cc
not-true false e = refl

pub and-parts : (a b : Bool) → (a && b) ≡ true → (a ≡ true) × (b ≡ true)
and-parts true b e = (refl, e)
and-parts false b e = cc

pub four-parts : (a b c d : Bool) → (a && b && c && d) ≡ true → (a ≡ true) × (b ≡ true) × (c ≡ true) × (d ≡ true)
four-parts true true true true e = (refl, refl, refl, refl)
four-parts true true true false e = cc
four-parts true true false d e = cc
four-parts true false c d e = cc
four-parts false b c d e = cc

-- ---- registers

abbrev pub IsSource : ℕ → Width → Place → Type 0
IsSource word width p = IsPlaceFor word width p ⊎ IsScratch word width p

scratch-works : (word : ℕ) (r : Reg32) → IsScratch word Two (InWord r) → IsWorking r
scratch-works word Eax h = absurd h
scratch-works word Ecx h = absurd h
scratch-works word Edx h = absurd h
scratch-works word Ebx h = absurd h
scratch-works word Esp h = absurd h
scratch-works word Ebp h = absurd h
scratch-works word Esi h = ((λ e. omega (arith, e)), (λ e. omega (arith, e)))
scratch-works word Edi h = ((λ e. omega (arith, e)), (λ e. omega (arith, e)))

not-slot : (q : Place) (k : ℕ) → is_same q (InSlot k) ≡ true → ⊥
not-slot (InWord r) k e = cc
not-slot (InByte r) k e = cc
not-slot (InSlot j) k e = cc

-- a place that is one with another is a register
pub can-exchange : (word : ℕ) (width : Width) (p q : Place) → IsSource word width p → is_same q p ≡ true
    → CanExchange width p
can-exchange word Two (InWord r) q (inl h) e = general-works r h
can-exchange word Two (InWord r) q (inr h) e = scratch-works word r h
can-exchange word Two (InByte r) q (inl h) e = h
can-exchange word Two (InByte r) q (inr h) e = h
can-exchange word Two (InSlot k) q h e = absurd (not-slot q k e)
can-exchange word One (InWord r) q (inl h) e = h
can-exchange word One (InWord r) q (inr h) e = h
can-exchange word One (InByte r) q h e = tt
can-exchange word One (InSlot k) q h e = absurd (not-slot q k e)

-- a register has one width
pub one-width : (word : ℕ) (d w : Width) (p : Place) → CanExchange d p → IsSource word w p → d ≡ w
one-width word Two Two p h k = refl
one-width word One One p h k = refl
one-width word Two One (InWord r) h (inl k) = absurd k
one-width word Two One (InWord r) h (inr k) = absurd k
one-width word Two One (InByte r) h k = absurd h
one-width word Two One (InSlot r) h k = absurd h
one-width word One Two (InWord r) h k = absurd h
one-width word One Two (InByte r) h (inl k) = absurd k
one-width word One Two (InByte r) h (inr k) = absurd k
one-width word One Two (InSlot r) h k = absurd h

pub not-slots : (d : Width) (p q : Place) → CanExchange d p → NotSlots p q
not-slots d (InWord r) q h = tt
not-slots d (InByte r) q h = tt
not-slots Two (InSlot k) q h = absurd h
not-slots One (InSlot k) q h = absurd h

pub other-place : (p q : Place) → is_same p q ≡ false → AreOther p q
other-place (InWord a) (InWord b) e = unlike (number32 a) (number32 b) e
other-place (InByte a) (InByte b) e = other-byte a b e
other-place (InWord a) (InByte b) e = tt
other-place (InWord a) (InSlot k) e = tt
other-place (InByte a) (InWord b) e = tt
other-place (InByte a) (InSlot k) e = tt
other-place (InSlot k) q e = tt

-- ---- words in general registers

pub general-test : (r : Reg32) → IsGeneral r → is_general (InWord r) ≡ true
general-test Eax h = refl
general-test Ecx h = refl
general-test Edx h = refl
general-test Ebx h = refl
general-test Esp h = absurd h
general-test Ebp h = absurd h
general-test Esi h = absurd h
general-test Edi h = absurd h

weight-test : (b : Bool) → (if b then 2 else 1) ≤ 2
weight-test true = omega arith
weight-test false = omega arith

two-least : (p : Place) → is_general p ≡ true → 2 ≤ (if is_general p then 2 else 1)
two-least p e = rw e (omega arith)

-- an exchange leaves a word as heavy
pub weight-swapped : (word : ℕ) (d : Width) (p q : Place) → CanExchange d p → CanExchange d q → IsPlaceFor word d q
    → (if is_general p then 2 else 1) ≤ (if is_general q then 2 else 1)
weight-swapped word Two p (InWord r) h k fits =
    let most = weight-test (is_general p) in
    let least = two-least (InWord r) (general-test r fits) in
    omega arith
weight-swapped word Two p (InByte r) h k fits = absurd k
weight-swapped word Two p (InSlot j) h k fits = absurd k
weight-swapped word One (InWord r) q h k fits = absurd h
weight-swapped word One (InByte r) (InWord q) h k fits = absurd k
weight-swapped word One (InByte r) (InByte q) h k fits = omega arith
weight-swapped word One (InByte r) (InSlot j) h k fits = absurd k
weight-swapped word One (InSlot j) q h k fits = absurd h

-- only words stand there
pub general-two : (word : ℕ) (d : Width) (p : Place) → is_general p ≡ true → IsSource word d p → Two ≡ d
general-two word Two p e h = refl
general-two word One (InWord r) e (inl h) = absurd h
general-two word One (InWord r) e (inr h) = absurd h
general-two word One (InByte r) e h = cc
general-two word One (InSlot k) e h = cc

pub general-not_slots : (p q : Place) → is_general p ≡ true → NotSlots p q
general-not_slots (InWord r) q e = tt
general-not_slots (InByte r) q e = tt
general-not_slots (InSlot k) q e = cc

pub not_slots-general : (p q : Place) → is_general q ≡ true → NotSlots p q
not_slots-general (InWord r) q e = tt
not_slots-general (InByte r) q e = tt
not_slots-general (InSlot k) (InWord r) e = tt
not_slots-general (InSlot k) (InByte r) e = cc
not_slots-general (InSlot k) (InSlot j) e = cc

pub same-self : (p : Place) → is_general p ≡ true → is_same p p ≡ true
same-self (InWord Eax) e = refl
same-self (InWord Ecx) e = refl
same-self (InWord Edx) e = refl
same-self (InWord Ebx) e = refl
same-self (InWord Esp) e = cc
same-self (InWord Ebp) e = cc
same-self (InWord Esi) e = cc
same-self (InWord Edi) e = cc
same-self (InByte r) e = cc
same-self (InSlot k) e = cc

-- ---- scratch

pub scratch-takes : (word : ℕ) (p : Place) → IsScratch word Two p → CanTake Two p
scratch-takes word (InWord r) h = scratch-works word r h
scratch-takes word (InByte r) h = h
scratch-takes word (InSlot k) h = tt

pub scratch-inside : (word frame : ℕ) (p : Place) → IsScratch word Two p → 4 ≤ word → word ≤ frame → IsInside frame p
scratch-inside word frame (InWord r) h low high = tt
scratch-inside word frame (InByte r) h low high = tt
scratch-inside word frame (InSlot k) h low high = (omega (arith, h), omega (arith, h))

pub scratch-cells : (word : ℕ) (p : Place) → IsScratch word Two p → (k : ℕ) → OutsideWord Esi k → OutsideWord Edi k
    → OutsidePlace p k
scratch-cells word (InWord Eax) h k a b = absurd h
scratch-cells word (InWord Ecx) h k a b = absurd h
scratch-cells word (InWord Edx) h k a b = absurd h
scratch-cells word (InWord Ebx) h k a b = absurd h
scratch-cells word (InWord Esp) h k a b = absurd h
scratch-cells word (InWord Ebp) h k a b = absurd h
scratch-cells word (InWord Esi) h k a b = a
scratch-cells word (InWord Edi) h k a b = b
scratch-cells word (InByte r) h k a b = absurd h
scratch-cells word (InSlot j) h k a b = tt

pub scratch-memory : (word : ℕ) (p : Place) → IsScratch word Two p → (base a n : ℕ) → AreDisjoint (base - word) 4 a n
    → ApartFromTarget base Two p a n
scratch-memory word (InWord r) h base a n d = tt
scratch-memory word (InByte r) h base a n d = tt
scratch-memory word (InSlot k) h base a n d = subst (λ (x : ℕ). AreDisjoint (base - x) 4 a n) (sym h) d

-- a slot of a variable is apart from it
pub scratch-slots : (word : ℕ) (d : Width) (p q : Place) → IsScratch word Two p → IsPlaceFor word d q → AreSlotsApart p q
scratch-slots word d (InWord r) q h k = tt
scratch-slots word d (InByte r) q h k = tt
scratch-slots word d (InSlot j) (InWord r) h k = tt
scratch-slots word d (InSlot j) (InByte r) h k = tt
scratch-slots word Two (InSlot j) (InSlot i) h k =
    subst (λ (x : ℕ). AreSlotsApart (InSlot x) (InSlot i)) (sym h) (slots-flip (InSlot i) (InSlot word) k.0)
scratch-slots word One (InSlot j) (InSlot i) h k =
    subst (λ (x : ℕ). AreSlotsApart (InSlot x) (InSlot i)) (sym h) (slots-flip (InSlot i) (InSlot word) k.0)

-- and weighs nothing more
pub scratch-light : (word : ℕ) (p : Place) → IsScratch word Two p → is_general p ≡ false
scratch-light word (InWord Eax) h = absurd h
scratch-light word (InWord Ecx) h = absurd h
scratch-light word (InWord Edx) h = absurd h
scratch-light word (InWord Ebx) h = absurd h
scratch-light word (InWord Esp) h = absurd h
scratch-light word (InWord Ebp) h = absurd h
scratch-light word (InWord Esi) h = refl
scratch-light word (InWord Edi) h = refl
scratch-light word (InByte r) h = absurd h
scratch-light word (InSlot k) h = refl
