-- Moves that pass the test can be made all at once.
use Rattle.std.proofs.Common.{◌≡◌, ℕ, ◌+◌, ◌^◌, ◌≤◌, Bool, true, false, List, [], ◌∷◌, refl, sym, inl, inr}
use Rattle.std.proofs.Common.{arith}
use Rattle.std.specs.Prelude.{⊤, ◌⊎◌, ◌&&◌, not, nat_le}
use Rattle.std.specs.Bool.{OnTrue}
use Rattle.std.specs.List.{AllByRecursion, list_all}
use Rattle.std.proofs.lemmas.Bool.{leb-true}
use Rattle.pcc_base.specs.declared.run.Width.{Width}
use Rattle.pcc_base.specs.declared.run.Width.TheVariants.{One, Two}
use Rattle.ia32_insn.specs.declared.register_names.Reg32.{Reg32}
use Rattle.ia32_insn.specs.declared.register_names.Reg32.TheVariants.{Eax, Ecx, Edx, Ebx, Esp, Ebp, Esi, Edi}
use Rattle.ia32_insn.specs.Places.{Place, InWord, InByte, InSlot, IsGeneral}
use Rattle.ia32_rows.proofs.Moves.{alike}
use Rattle.parallel_copies.specs.declared.moves.Move.{Move}
use Rattle.parallel_copies.specs.Overlap.{is_general, overlap, slots_overlap}
use Rattle.parallel_copies.specs.Copies.{AreAllBeside, AreBeside, AreMoves, AreOneSlot, AreSlotsApart, IsMove, IsPlaceFor}
use Rattle.parallel_copies.specs.Copies.{IsSlotFor, source, target}
use Rattle.parallel_copies.specs.Tests.{all_beside, are_beside, are_one_slot, are_slots_apart, can_repair, is_move}
use Rattle.parallel_copies.specs.Tests.{is_place_for, is_slot_for}
use Rattle.parallel_copies.proofs.Lists.{all-map, all-pass}
use Rattle.parallel_copies.proofs.Apart.{apart-from, slots-from}
use Rattle.parallel_copies.proofs.PlaceKinds.{and-parts, four-parts, not-true}

general-is : (r : Reg32) → is_general (InWord r) ≡ true → IsGeneral r
general-is Eax e = tt
general-is Ecx e = tt
general-is Edx e = tt
general-is Ebx e = tt
general-is Esp e = cc
general-is Ebp e = cc
general-is Esi e = cc
general-is Edi e = cc

slot-for : (word k : ℕ) → is_slot_for word k ≡ true → IsSlotFor word k
slot-for word k e =
    let parts = and-parts (not (slots_overlap k word)) (nat_le k (2 ^ 31)) e in
    (slots-from k word (not-true (slots_overlap k word) parts.0), leb-true k (2 ^ 31) parts.1)

place-for : (word : ℕ) (d : Width) (p : Place) → is_place_for word d p ≡ true → IsPlaceFor word d p
place-for word Two (InWord r) e = general-is r e
place-for word Two (InByte r) e = cc
place-for word Two (InSlot k) e = slot-for word k e
place-for word One (InWord r) e = cc
place-for word One (InByte r) e = tt
place-for word One (InSlot k) e = slot-for word k e

one-slot : (p q : Place) → are_one_slot p q ≡ true → AreOneSlot p q
one-slot (InSlot k) (InSlot j) e = alike k j e
one-slot (InSlot k) (InWord r) e = tt
one-slot (InSlot k) (InByte r) e = tt
one-slot (InWord r) q e = tt
one-slot (InByte r) q e = tt

slots-apart : (p q : Place) → are_slots_apart p q ≡ true → AreSlotsApart p q
slots-apart (InSlot k) (InSlot j) e = slots-from k j (not-true (slots_overlap k j) e)
slots-apart (InSlot k) (InWord r) e = tt
slots-apart (InSlot k) (InByte r) e = tt
slots-apart (InWord r) q e = tt
slots-apart (InByte r) q e = tt

three-parts : (a b c : Bool) → (a && b && c) ≡ true → (a ≡ true) × (b ≡ true) × (c ≡ true)
three-parts true true true e = (refl, refl, refl)
three-parts true true false e = cc
three-parts true false c e = cc
three-parts false b c e = cc

move-is : (word : ℕ) (m : Move) → is_move word m ≡ true → IsMove word m
move-is word m e =
    let parts = three-parts (is_place_for word m.width (source m)) (is_place_for word m.width (target m))
    (are_one_slot (source m) (target m)) e in
    record {
      from_fits = place-for word m.width (source m) parts.0;
      to_fits = place-for word m.width (target m) parts.1;
      slots = one-slot (source m) (target m) parts.2;
    }

beside-is : (m n : Move) → are_beside m n ≡ true → AreBeside m n
beside-is m n e =
    let parts = four-parts (not (overlap (source m) (source n))) (not (overlap (target m) (target n)))
    (are_slots_apart (source m) (target n)) (are_slots_apart (target m) (source n)) e in
    record {
      sources = apart-from (source m) (source n) (not-true (overlap (source m) (source n)) parts.0);
      targets = apart-from (target m) (target n) (not-true (overlap (target m) (target n)) parts.1);
      from_to = slots-apart (source m) (target n) parts.2;
      to_from = slots-apart (target m) (source n) parts.3;
    }

all-beside : (moves : List Move) → all_beside moves ≡ true → AreAllBeside moves
all-beside [] e = tt
all-beside (m ∷ moves) e =
    let parts = and-parts (list_all (are_beside m) moves) (all_beside moves) e in (
      all-map (λ n. are_beside m n ≡ true) (AreBeside m) moves (λ n t. beside-is m n t)
          (all-pass (are_beside m) moves parts.0),
      all-beside moves parts.1,
    )

pub moves-are : (word : ℕ) (moves : List Move) → can_repair word moves ≡ true → AreMoves word moves
moves-are word moves e =
    let parts = three-parts (nat_le word (2 ^ 31)) (list_all (is_move word) moves) (all_beside moves) e in
    record {
      short = leb-true word (2 ^ 31) parts.0;
      each = all-map (λ m. is_move word m ≡ true) (IsMove word) moves (λ m t. move-is word m t)
          (all-pass (is_move word) moves parts.1);
      beside = all-beside moves parts.2;
    }

pub asked-by_test : (word : ℕ) (moves : List Move) (b : Bool) → b ≡ can_repair word moves → OnTrue b (AreMoves word moves)
asked-by_test word moves true e = moves-are word moves (sym e)
asked-by_test word moves false e = tt
