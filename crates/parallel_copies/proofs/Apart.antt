-- Places that have no byte in common, and tests of that.
use Rattle.std.proofs.Common.{◌≡◌, ◌≢◌, ℕ, ◌+◌, ◌-◌, ◌*◌, ◌/◌, ◌%◌, ◌<◌, ◌≤◌, Bool, true, false, List, [], ◌∷◌, Some}
use Rattle.std.proofs.Common.{refl, sym, ap, subst, ◌∙◌, inl, inr, arith}
use Rattle.std.specs.Prelude.{◌==◌, ◌⊎◌, slice_get}
use Rattle.std.proofs.lemmas.Bool.Decides.{nat_tests}
use Rattle.ia32_insn.specs.declared.register_names.Reg32.{Reg32}
use Rattle.ia32_insn.specs.declared.register_names.Reg32.TheVariants.{Eax, Ecx, Edx, Ebx, Esp, Ebp, Esi, Edi}
use Rattle.ia32_insn.specs.declared.register_names.Reg8.{Reg8}
use Rattle.ia32_insn.specs.declared.register_names.Reg8.TheVariants.{Al, Cl, Dl, Bl, Ah, Ch, Dh, Bh}
use Rattle.ia32_insn.specs.Registers.{number32, number8, byte_place}
use Rattle.ia32_insn.specs.Places.{Place, InWord, InByte, InSlot}
use Rattle.ia32_rows.specs.Effects.{OutsideWord}
use Rattle.ia32_rows.specs.Laws.{ArePlacesApart}
use Rattle.ia32_rows.proofs.Moves.{alike, unlike}
use Rattle.parallel_copies.specs.Overlap.{overlap, slots_overlap, is_same}
use Rattle.parallel_copies.specs.Copies.{AreBeside, AreSlotsApart, source, target}
use Rattle.parallel_copies.specs.declared.moves.Move.{Move}

-- ---- numbers

-- where a byte stands: in the word of its number modulo 4
byte-at : (r : Reg8) → (byte_place r ≡ 4 * (number8 r % 4) + number8 r / 4) × (number8 r < 8)
byte-at Al = (refl, omega arith)
byte-at Cl = (refl, omega arith)
byte-at Dl = (refl, omega arith)
byte-at Bl = (refl, omega arith)
byte-at Ah = (refl, omega arith)
byte-at Ch = (refl, omega arith)
byte-at Dh = (refl, omega arith)
byte-at Bh = (refl, omega arith)

different : (m n : ℕ) → m ≢ n → (m == n) ≡ false
different m n e = grind (arith, nat_tests, e)

outside-from : (n p b : ℕ) → b ≡ 4 * (n % 4) + n / 4 → n < 8 → n % 4 ≢ p → (b < 4 * p) ⊎ (4 * p + 4 ≤ b)
outside-from n p b e h other = let d : (n % 4 < p) ⊎ (p < n % 4) = grind (arith, other) in sides d
  where
    sides : (n % 4 < p) ⊎ (p < n % 4) → (b < 4 * p) ⊎ (4 * p + 4 ≤ b)
    sides (inl l) = inl (omega arith)
    sides (inr r) = inr (omega arith)

within-not : (n p b : ℕ) → b ≡ 4 * (n % 4) + n / 4 → n < 8 → (b < 4 * p) ⊎ (4 * p + 4 ≤ b) → n % 4 ≢ p
within-not n p b e h (inl l) same = omega arith
within-not n p b e h (inr r) same = omega arith

same-number : (m n a b : ℕ) → a ≡ 4 * (m % 4) + m / 4 → b ≡ 4 * (n % 4) + n / 4 → m < 8 → n < 8 → a ≡ b → m ≡ n
same-number m n a b e f h k same = omega arith

-- ---- apart

pub apart-flip : (p q : Place) → ArePlacesApart p q → ArePlacesApart q p
apart-flip (InWord r) (InWord q) h = λ e. h (sym e)
apart-flip (InWord r) (InByte q) h = h
apart-flip (InWord r) (InSlot k) h = tt
apart-flip (InByte r) (InWord q) h = h
apart-flip (InByte r) (InByte q) h = λ e. h (sym e)
apart-flip (InByte r) (InSlot k) h = tt
apart-flip (InSlot k) (InWord q) h = tt
apart-flip (InSlot k) (InByte q) h = tt
apart-flip (InSlot k) (InSlot j) (inl h) = inr h
apart-flip (InSlot k) (InSlot j) (inr h) = inl h

pub slots-flip : (p q : Place) → AreSlotsApart p q → AreSlotsApart q p
slots-flip (InSlot k) (InSlot j) (inl h) = inr h
slots-flip (InSlot k) (InSlot j) (inr h) = inl h
slots-flip (InSlot k) (InWord r) h = tt
slots-flip (InSlot k) (InByte r) h = tt
slots-flip (InWord r) (InSlot k) h = tt
slots-flip (InWord r) (InWord q) h = tt
slots-flip (InWord r) (InByte q) h = tt
slots-flip (InByte r) (InSlot k) h = tt
slots-flip (InByte r) (InWord q) h = tt
slots-flip (InByte r) (InByte q) h = tt

pub beside-flip : (m n : Move) → AreBeside m n → AreBeside n m
beside-flip m n h =
    record {
      sources = apart-flip (source m) (source n) h.sources;
      targets = apart-flip (target m) (target n) h.targets;
      from_to = slots-flip (target m) (source n) h.to_from;
      to_from = slots-flip (source m) (target n) h.from_to;
    }

pub slots-from : (k j : ℕ) → slots_overlap k j ≡ false → (k + 4 ≤ j) ⊎ (j + 4 ≤ k)
slots-from k j e = grind (arith, nat_tests)

pub slots-to : (k j : ℕ) → (k + 4 ≤ j) ⊎ (j + 4 ≤ k) → slots_overlap k j ≡ false
slots-to k j (inl h) = grind (arith, nat_tests)
slots-to k j (inr h) = grind (arith, nat_tests)

-- bytes of other numbers stand elsewhere
pub other-byte : (r q : Reg8) → (number8 r == number8 q) ≡ false → byte_place r ≢ byte_place q
other-byte r q e same =
    let a = byte-at r in
    let b = byte-at q in
    unlike (number8 r) (number8 q) e
    (same-number (number8 r) (number8 q) (byte_place r) (byte_place q) a.0 b.0 a.1 b.1 same)

-- places of which the test says that they have none in common
pub apart-from : (p q : Place) → overlap p q ≡ false → ArePlacesApart p q
apart-from (InWord r) (InWord q) e = unlike (number32 r) (number32 q) e
apart-from (InWord r) (InByte q) e =
    let at = byte-at q in
    outside-from (number8 q) (number32 r) (byte_place q) at.0 at.1 (unlike (number8 q % 4) (number32 r) e)
apart-from (InWord r) (InSlot k) e = tt
apart-from (InByte r) (InWord q) e =
    let at = byte-at r in
    outside-from (number8 r) (number32 q) (byte_place r) at.0 at.1 (unlike (number8 r % 4) (number32 q) e)
apart-from (InByte r) (InByte q) e = other-byte r q e
apart-from (InByte r) (InSlot k) e = tt
apart-from (InSlot k) (InWord q) e = tt
apart-from (InSlot k) (InByte q) e = tt
apart-from (InSlot k) (InSlot j) e = slots-from k j e

-- and the other way round
pub apart-to : (p q : Place) → ArePlacesApart p q → overlap p q ≡ false
apart-to (InWord r) (InWord q) h = different (number32 r) (number32 q) h
apart-to (InWord r) (InByte q) h =
    let at = byte-at q in
    different (number8 q % 4) (number32 r) (within-not (number8 q) (number32 r) (byte_place q) at.0 at.1 h)
apart-to (InWord r) (InSlot k) h = refl
apart-to (InByte r) (InWord q) h =
    let at = byte-at r in
    different (number8 r % 4) (number32 q) (within-not (number8 r) (number32 q) (byte_place r) at.0 at.1 h)
apart-to (InByte r) (InByte q) h = different (number8 r) (number8 q) (λ e. h (byte-same r q e))
  where
    byte-same : (r q : Reg8) → number8 r ≡ number8 q → byte_place r ≡ byte_place q
    byte-same r q e =
        let a = byte-at r in
        let b = byte-at q in
        a.0 ∙ ap (λ (n : ℕ). 4 * (n % 4) + n / 4) e ∙ sym b.0
apart-to (InByte r) (InSlot k) h = refl
apart-to (InSlot k) (InWord q) h = refl
apart-to (InSlot k) (InByte q) h = refl
apart-to (InSlot k) (InSlot j) h = slots-to k j h

-- ---- one place

all-words : List Reg32
all-words = Eax ∷ Ecx ∷ Edx ∷ Ebx ∷ Esp ∷ Ebp ∷ Esi ∷ Edi ∷ []

word-at : (r : Reg32) → slice_get all-words (number32 r) ≡ Some r
unfolding all-words
word-at Eax = refl
word-at Ecx = refl
word-at Edx = refl
word-at Ebx = refl
word-at Esp = refl
word-at Ebp = refl
word-at Esi = refl
word-at Edi = refl

-- registers of one number are one
pub one-word : (r q : Reg32) → number32 r ≡ number32 q → r ≡ q
one-word r q e =
    let a = word-at r in
    let b = word-at q in
    let c = ap (slice_get all-words) e in
    cc

all-bytes : List Reg8
all-bytes = Al ∷ Cl ∷ Dl ∷ Bl ∷ Ah ∷ Ch ∷ Dh ∷ Bh ∷ []

byte-in : (r : Reg8) → slice_get all-bytes (number8 r) ≡ Some r
unfolding all-bytes
byte-in Al = refl
byte-in Cl = refl
byte-in Dl = refl
byte-in Bl = refl
byte-in Ah = refl
byte-in Ch = refl
byte-in Dh = refl
byte-in Bh = refl

pub one-byte : (r q : Reg8) → number8 r ≡ number8 q → r ≡ q
one-byte r q e =
    let a = byte-in r in
    let b = byte-in q in
    let c = ap (slice_get all-bytes) e in
    cc

-- places of which the test says that they are one
pub one-place : (p q : Place) → is_same p q ≡ true → p ≡ q
one-place (InWord r) (InWord q) e = ap InWord (one-word r q (alike (number32 r) (number32 q) e))
one-place (InWord r) (InByte q) e = cc
one-place (InWord r) (InSlot k) e = cc
one-place (InByte r) (InWord q) e = cc
one-place (InByte r) (InByte q) e = ap InByte (one-byte r q (alike (number8 r) (number8 q) e))
one-place (InByte r) (InSlot k) e = cc
one-place (InSlot k) q e = cc

-- no register is apart from itself
pub not-apart : (p q : Place) → is_same p q ≡ true → ArePlacesApart p q → ⊥
not-apart p q e h = clash p q e (apart-to p q h)
  where
    clash : (p q : Place) → is_same p q ≡ true → overlap p q ≡ false → ⊥
    clash (InWord r) (InWord q) e f = cc
    clash (InWord r) (InByte q) e f = cc
    clash (InWord r) (InSlot k) e f = cc
    clash (InByte r) (InWord q) e f = cc
    clash (InByte r) (InByte q) e f = cc
    clash (InByte r) (InSlot k) e f = cc
    clash (InSlot k) q e f = cc
