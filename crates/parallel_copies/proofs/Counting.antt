-- How many moves wait at most.
use Rattle.std.proofs.Common.{◌≡◌, ◌≢◌, ℕ, zero, suc, ◌+◌, ◌*◌, ◌/◌, ◌%◌, ◌<◌, ◌≤◌, Bool, true, false, List, [], ◌∷◌, ◌++◌}
use Rattle.std.proofs.Common.{length, map, cond, refl, sym, ap, subst, ◌∙◌, inl, inr, arith}
use Rattle.std.specs.Prelude.{⊤, ◌⊎◌, not, filter, if◌then◌else◌}
use Rattle.std.specs.List.{AllByRecursion}
use Rattle.std.proofs.lemmas.List.{length-map}
use Rattle.std.proofs.lemmas.List.Filters.{length-filter_both}
use Rattle.pcc_base.specs.declared.run.Width.{Width}
use Rattle.pcc_base.specs.declared.run.Width.TheVariants.{One, Two}
use Rattle.ia32_insn.specs.declared.register_names.Reg32.TheVariants.{Eax, Ecx, Edx, Ebx, Esp, Ebp, Esi, Edi}
use Rattle.ia32_insn.specs.declared.register_names.Reg8.{Reg8}
use Rattle.ia32_insn.specs.declared.register_names.Reg8.TheVariants.{Al, Cl, Dl, Bl, Ah, Ch, Dh, Bh}
use Rattle.ia32_insn.specs.Registers.{number32, byte_place}
use Rattle.ia32_insn.specs.Places.{Place, InWord, InByte, InSlot, IsGeneral}
use Rattle.ia32_rows.specs.Laws.{ArePlacesApart}
use Rattle.parallel_copies.specs.declared.moves.Move.{Move}
use Rattle.parallel_copies.specs.Overlap.{is_general, is_same}
use Rattle.parallel_copies.specs.Copies.{AreAllBeside, AreBeside, IsMove, IsPlaceFor, source, target}
use Rattle.parallel_copies.specs.Steps.{NotSlots, weight, weight_of}
use Rattle.parallel_copies.proofs.Lists.{AreDistinct, IsIn, all-from, all-into, all-map, all-pairs, length-distinct}
use Rattle.parallel_copies.proofs.Apart.{not-apart}
use Rattle.parallel_copies.proofs.PlaceKinds.{same-self}
use Rattle.parallel_copies.proofs.Stuck.{all-filtered, beside-filtered, four_words, general-in}

-- ---- the lowest bytes of places

-- the lowest byte of a register, or that byte
first_cell : Place → ℕ
first_cell (InWord r) = 4 * number32 r
first_cell (InByte r) = byte_place r
first_cell (InSlot k) = 16

eight_cells : List ℕ
eight_cells = 0 ∷ 4 ∷ 8 ∷ 12 ∷ 1 ∷ 5 ∷ 9 ∷ 13 ∷ []

abbrev pub is_slot : Place → Bool
is_slot (InWord r) = false
is_slot (InByte r) = false
is_slot (InSlot k) = true

-- there are eight
cell-in : (word : ℕ) (d : Width) (p : Place) → IsPlaceFor word d p → is_slot p ≡ false → IsIn eight_cells (first_cell p)
unfolding first_cell eight_cells
cell-in word Two (InWord Eax) h e = (0, refl)
cell-in word Two (InWord Ecx) h e = (1, refl)
cell-in word Two (InWord Edx) h e = (2, refl)
cell-in word Two (InWord Ebx) h e = (3, refl)
cell-in word Two (InWord Esp) h e = absurd h
cell-in word Two (InWord Ebp) h e = absurd h
cell-in word Two (InWord Esi) h e = absurd h
cell-in word Two (InWord Edi) h e = absurd h
cell-in word Two (InByte r) h e = absurd h
cell-in word One (InWord r) h e = absurd h
cell-in word One (InByte Al) h e = (0, refl)
cell-in word One (InByte Cl) h e = (1, refl)
cell-in word One (InByte Dl) h e = (2, refl)
cell-in word One (InByte Bl) h e = (3, refl)
cell-in word One (InByte Ah) h e = (4, refl)
cell-in word One (InByte Ch) h e = (5, refl)
cell-in word One (InByte Dh) h e = (6, refl)
cell-in word One (InByte Bh) h e = (7, refl)
cell-in word d (InSlot k) h e = cc

-- places that are apart have different ones
cells-differ : (p q : Place) → is_slot p ≡ false → is_slot q ≡ false → ArePlacesApart p q → first_cell p ≢ first_cell q
unfolding first_cell
cells-differ (InWord r) (InWord q) e f h same = h (omega arith)
cells-differ (InWord r) (InByte q) e f (inl h) same = omega arith
cells-differ (InWord r) (InByte q) e f (inr h) same = omega arith
cells-differ (InByte r) (InWord q) e f (inl h) same = omega arith
cells-differ (InByte r) (InWord q) e f (inr h) same = omega arith
cells-differ (InByte r) (InByte q) e f h same = h same
cells-differ (InSlot k) q e f h same = cc
cells-differ (InWord r) (InSlot k) e f h same = cc
cells-differ (InByte r) (InSlot k) e f h same = cc

eight : length eight_cells ≡ 8
unfolding eight_cells
eight = refl

-- ---- moves

cells-distinct : (f : Move → Place) → ((m n : Move) → AreBeside m n → ArePlacesApart (f m) (f n)) → (xs : List Move)
    → AreAllBeside xs → AllByRecursion (λ m. is_slot (f m) ≡ false) xs → AreDistinct (map (λ m. first_cell (f m)) xs)
cells-distinct f apart [] h r = tt
cells-distinct f apart (x ∷ xs) h r = (
  all-into (λ y. AreBeside x y × (is_slot (f y) ≡ false)) (λ c. first_cell (f x) ≢ c) (λ m. first_cell (f m)) xs
      (λ y b. cells-differ (f x) (f y) r.0 b.1 (apart x y b.0))
      (all-pairs (AreBeside x) (λ m. is_slot (f m) ≡ false) xs h.0 r.1),
  cells-distinct f apart xs h.1 r.1,
)

-- of moves from registers, or to registers, there are eight at most
at-most-eight : (word : ℕ) (f : Move → Place) → ((m n : Move) → AreBeside m n → ArePlacesApart (f m) (f n))
    → (xs : List Move) → AreAllBeside xs → AllByRecursion (λ m. IsPlaceFor word m.width (f m)) xs
    → AllByRecursion (λ m. is_slot (f m) ≡ false) xs → length xs ≤ 8
at-most-eight word f apart xs beside fits registers =
    let few = length-distinct (map (λ m. first_cell (f m)) xs) eight_cells (cells-distinct f apart xs beside registers)
    (all-into (λ m. IsPlaceFor word m.width (f m) × (is_slot (f m) ≡ false)) (IsIn eight_cells) (λ m. first_cell (f m)) xs
    (λ m h. cell-in word m.width (f m) h.0 h.1)
    (all-pairs (λ m. IsPlaceFor word m.width (f m)) (λ m. is_slot (f m) ≡ false) xs fits registers)) in
    let a = length-map xs (λ m. first_cell (f m)) in
    let b = eight in
    omega (arith, few, a, b)

-- of moves of words from general registers there are four at most
generals-distinct : (xs : List Move) → AreAllBeside xs → AllByRecursion (λ m. is_general (source m) ≡ true) xs
    → AreDistinct (map source xs)
generals-distinct [] h g = tt
generals-distinct (x ∷ xs) h g = (
  all-into (AreBeside x) (λ p. source x ≢ p) source xs
      (λ y b same. not-apart (source x) (source y)
      (subst (λ (p : Place). is_same (source x) p ≡ true) same (same-self (source x) g.0)) b.sources) h.0,
  generals-distinct xs h.1 g.1,
)

at-most-four : (xs : List Move) → AreAllBeside xs → length (filter (λ m. is_general (source m)) xs) ≤ 4
at-most-four xs beside =
    let some : List Move = filter (λ m. is_general (source m)) xs in
    let all : AllByRecursion (λ m. is_general (source m) ≡ true) some =
    all-filtered (λ m. is_general (source m)) (λ m. is_general (source m) ≡ true) xs
    (all-from (λ m. is_general (source m) ≡ true → is_general (source m) ≡ true) xs (λ i m there e. e)) in
    let few = length-distinct (map source some) four_words
    (generals-distinct some (beside-filtered (λ m. is_general (source m)) xs beside) all)
    (all-into (λ m. is_general (source m) ≡ true) (IsIn four_words) source some (λ m g. general-in (source m) g) all) in
    let a = length-map some source in
    omega (arith, few, a)

-- what moves weigh is how many they are and how many of them are such
weight-is : (xs : List Move) → weight xs ≡ length xs + length (filter (λ m. is_general (source m)) xs)
weight-is [] = refl
weight-is (x ∷ xs) = chosen (is_general (source x)) (weight-is xs)
  where
    chosen : (b : Bool) → weight xs ≡ length xs + length (filter (λ m. is_general (source m)) xs)
        → (if b then 2 else 1) + weight xs ≡ length (x ∷ xs)
        + length (cond b (x ∷ filter (λ m. is_general (source m)) xs) (filter (λ m. is_general (source m)) xs))
    chosen true e = omega (arith, e)
    chosen false e = omega (arith, e)

no-slot : (p q : Place) → NotSlots p q → is_slot p ≡ true → is_slot q ≡ false
no-slot (InSlot k) (InSlot j) h e = absurd h
no-slot (InSlot k) (InWord r) h e = refl
no-slot (InSlot k) (InByte r) h e = refl
no-slot (InWord r) q h e = cc
no-slot (InByte r) q h e = cc

from-slot : (b : Bool) → not b ≡ true → b ≡ false
from-slot true e = cc
from-slot false e = refl

-- so there are sixteen at most, and they weigh twenty
pub few-moves : (word : ℕ) (xs : List Move) → AreAllBeside xs
    → AllByRecursion (λ m. IsPlaceFor word m.width (source m)) xs
    → AllByRecursion (λ m. IsPlaceFor word m.width (target m)) xs
    → AllByRecursion (λ m. NotSlots (source m) (target m)) xs → (length xs ≤ 16) × (weight xs ≤ 20)
few-moves word xs beside sources targets slots =
    let loads : List Move = filter (λ m. is_slot (source m)) xs in
    let others : List Move = filter (λ m. not (is_slot (source m))) xs in
    let first = at-most-eight word target (λ m n b. b.targets) loads
    (beside-filtered (λ m. is_slot (source m)) xs beside)
    (all-filtered (λ m. is_slot (source m)) (λ m. IsPlaceFor word m.width (target m)) xs
    (all-map (λ m. IsPlaceFor word m.width (target m)) (λ m. is_slot (source m) ≡ true → IsPlaceFor word m.width (target m))
    xs (λ m h e. h) targets))
    (all-filtered (λ m. is_slot (source m)) (λ m. is_slot (target m) ≡ false) xs
    (all-map (λ m. NotSlots (source m) (target m)) (λ m. is_slot (source m) ≡ true → is_slot (target m) ≡ false) xs
    (λ m h e. no-slot (source m) (target m) h e) slots)) in
    let second = at-most-eight word source (λ m n b. b.sources) others
    (beside-filtered (λ m. not (is_slot (source m))) xs beside)
    (all-filtered (λ m. not (is_slot (source m))) (λ m. IsPlaceFor word m.width (source m)) xs
    (all-map (λ m. IsPlaceFor word m.width (source m))
    (λ m. not (is_slot (source m)) ≡ true → IsPlaceFor word m.width (source m)) xs (λ m h e. h) sources))
    (all-filtered (λ m. not (is_slot (source m))) (λ m. is_slot (source m) ≡ false) xs
    (all-map (λ m. IsPlaceFor word m.width (source m)) (λ m. not (is_slot (source m)) ≡ true → is_slot (source m) ≡ false)
    xs (λ m h e. from-slot (is_slot (source m)) e) sources)) in
    let both = length-filter_both (λ m. is_slot (source m)) (λ m. not (is_slot (source m))) (λ m. refl) xs in
    let four = at-most-four xs beside in
    let heavy = weight-is xs in
    (omega (arith, first, second, both), omega (arith, first, second, both, four, heavy))
