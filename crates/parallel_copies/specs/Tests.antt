-- Whether moves can be made all at once, as a test.
use Rattle.std.specs.Prelude.{ℕ, ◌^◌, ◌==◌, ◌&&◌, Bool, true, false, not, nat_le, List, [], ◌∷◌}
use Rattle.std.specs.List.{list_all}
use Rattle.pcc_base.specs.declared.run.Width.{Width}
use Rattle.pcc_base.specs.declared.run.Width.TheVariants.{One, Two}
use Rattle.ia32_insn.specs.Places.{Place, InWord, InByte, InSlot}
use Rattle.parallel_copies.specs.declared.moves.Move.{Move}
use Rattle.parallel_copies.specs.Overlap.{is_general, overlap, slots_overlap}
use Rattle.parallel_copies.specs.Copies.{source, target}

abbrev pub is_slot_for : ℕ → ℕ → Bool
is_slot_for word k = not (slots_overlap k word) && nat_le k (2 ^ 31)

abbrev pub is_place_for : ℕ → Width → Place → Bool
is_place_for word Two (InWord r) = is_general (InWord r)
is_place_for word Two (InByte r) = false
is_place_for word Two (InSlot k) = is_slot_for word k
is_place_for word One (InWord r) = false
is_place_for word One (InByte r) = true
is_place_for word One (InSlot k) = is_slot_for word k

abbrev pub are_one_slot : Place → Place → Bool
are_one_slot (InSlot k) (InSlot j) = k == j
are_one_slot (InSlot k) (InWord r) = true
are_one_slot (InSlot k) (InByte r) = true
are_one_slot (InWord r) q = true
are_one_slot (InByte r) q = true

abbrev pub are_slots_apart : Place → Place → Bool
are_slots_apart (InSlot k) (InSlot j) = not (slots_overlap k j)
are_slots_apart (InSlot k) (InWord r) = true
are_slots_apart (InSlot k) (InByte r) = true
are_slots_apart (InWord r) q = true
are_slots_apart (InByte r) q = true

abbrev pub is_move : ℕ → Move → Bool
is_move word m =
    is_place_for word m.width (source m) && is_place_for word m.width (target m)
    && are_one_slot (source m) (target m)

abbrev pub are_beside : Move → Move → Bool
are_beside m n =
    not (overlap (source m) (source n)) && not (overlap (target m) (target n))
    && are_slots_apart (source m) (target n) && are_slots_apart (target m) (source n)

abbrev pub all_beside : List Move → Bool
all_beside [] = true
all_beside (m ∷ moves) = list_all (are_beside m) moves && all_beside moves

abbrev pub can_repair : ℕ → List Move → Bool
can_repair word moves = nat_le word (2 ^ 31) && list_all (is_move word) moves && all_beside moves
