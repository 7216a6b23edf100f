use Rattle.std.proofs.Common.{◌≡◌, ◌<◌, ◌+◌, ◌∙◌, ℤ, ℕ, List, [], ◌∷◌, ◌++◌, length, take, get_or, Option, ap, arith}
use Rattle.std.proofs.Common.{subst, sym}
use Rattle.std.proofs.lemmas.List.{take_more}
use Rattle.puzzle_board.specs.Places.{PlaceMap, with_spilled}
use Rattle.allocator.specs.Slots.{AreGiven, AreSpilled, slots_given}
use Rattle.allocator.proofs.Giving.{given-more, spilled-more}
use Rattle.allocator.proofs.given_slots.spill_all.Goals as goal

pub loop-i-preserved : goal.loop-i-preserved
loop-i-preserved c =
    let old : PlaceMap = c.args.map.now in
    let mid : PlaceMap = c.loop-i.map in
    let new : PlaceMap = c.add_spilled.new.self in
    let vs : List ℕ = c.args.spilled.now in
    let i = c.loop-i.i in
    let v : ℕ = get_or vs i 0 in
    let slots : List (Option ℤ) = c.give_slot.new.map.slots in
    let more : take (i + 1) vs ≡ take i vs ++ v ∷ [] = take_more vs i 0 c.loop-i-test.true in
    let is : new ≡ with_spilled (record mid { slots = slots }) c.args.point v =
    c.in_ok-add_spilled.ensures ∙ ap (λ (m : PlaceMap). with_spilled m c.args.point v) c.give_slot.ensures.rest in
    let same : new.slots ≡ slots = ap (λ (m : PlaceMap). m.slots) c.in_ok-add_spilled.ensures in
    let lt : c.args.point < length old.spilled =
    omega (arith, c.requires.point, c.is_place_map.ensures.same_spilled) in
    record {
      spilled =
          subst (λ (ws : List ℕ). AreSpilled c.args.point ws old new) (sym more)
          (spilled-more c.args.point (take i vs) v old mid slots new lt c.loop-i.invariant.spilled is);
      given =
          subst (λ (ws : List ℕ). AreGiven ws old.slots new.slots) (sym more)
          (subst (λ (ss : List (Option ℤ)). AreGiven (take i vs ++ v ∷ []) old.slots ss) (sym same)
          (given-more (take i vs) v old.slots mid.slots slots c.loop-i.invariant.given c.give_slot.ensures.given));
      count = c.give_slot.ensures.count ∙ ap slots_given (sym same);
    }
