use Rattle.std.proofs.Common.{◌≡◌, ◌∙◌, ℤ, ℕ, List, [], ◌∷◌, ◌+◌, Option, Some, ap, arith, set, subst, sym}
use Rattle.std.proofs.Common.{rules}
use Rattle.std.specs.Int.{w32}
use Rattle.std.proofs.lemmas.Int.{to_z-of_z}
use Rattle.puzzle_board.specs.Places.{PlaceMap}
use Rattle.allocator.specs.Slots.{AreGiven, offset_of, slots_given}
use Rattle.allocator.proofs.Giving.{count-room, given-count, given-new, given-there, with-slot, without-slot}
use Rattle.allocator.proofs.given_slots.give_slot.Goals as goal

pub offset_of-requires : goal.offset_of-requires
offset_of-requires c =
    let none = without-slot c.args.map.now.slots c.args.var c.slot.result c.is_none.result c.slot.ensures
    c.is_none.ensures c.if-is_none.true in
    let room = count-room c.args.map.now.slots c.args.var c.requires.var none in
    omega (arith, room, c.requires.count, c.requires.few)

pub returns-then-is_none-clause-given : goal.returns-then-is_none-clause-given
returns-then-is_none-clause-given c =
    let slots : List (Option ℤ) = c.args.map.now.slots in
    let v = c.args.var in
    let none = without-slot slots v c.slot.result c.is_none.result c.slot.ensures c.is_none.ensures
    c.if-is_none.true in
    let is : c.set_slot.new.self.slots ≡ set slots v (Some (offset_of (slots_given slots))) =
    ap (λ (m : PlaceMap). m.slots) c.set_slot.ensures
    ∙ ap (λ (o : ℤ). set slots v (Some o))
    (to_z-of_z w32 c.offset_of.result (search rules) ∙ (c.offset_of.ensures ∙ ap offset_of c.requires.count)) in
    subst (λ (ss : List (Option ℤ)). AreGiven (v ∷ []) slots ss) (sym is)
    (given-new slots v c.requires.var c.requires.slots none)

pub returns-then-is_none-clause-count : goal.returns-then-is_none-clause-count
returns-then-is_none-clause-count c =
    let slots : List (Option ℤ) = c.args.map.now.slots in
    let v = c.args.var in
    let none = without-slot slots v c.slot.result c.is_none.result c.slot.ensures c.is_none.ensures
    c.if-is_none.true in
    let is : c.set_slot.new.self.slots ≡ set slots v (Some c.offset_of.result) =
    ap (λ (m : PlaceMap). m.slots) c.set_slot.ensures
    ∙ ap (λ (o : ℤ). set slots v (Some o)) (to_z-of_z w32 c.offset_of.result (search rules)) in
    ap (λ (n : ℕ). n + 1) c.requires.count
    ∙ (given-count slots v c.offset_of.result c.requires.var none ∙ ap slots_given (sym is))

pub returns-else-is_none-clause-given : goal.returns-else-is_none-clause-given
returns-else-is_none-clause-given c =
    given-there c.args.map.now.slots c.args.var c.requires.slots
    (with-slot c.args.map.now.slots c.args.var c.slot.result c.is_none.result c.slot.ensures c.is_none.ensures
    c.if-is_none.false)
