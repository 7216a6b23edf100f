use Rattle.std.proofs.Common.{◌≡◌, take}
use Rattle.allocator.specs.Slots.{AreGiven, AreSpilled, slots_given}
use Rattle.allocator.proofs.given_slots.spill_all.Given as goal

abbrev pub invariant-loop-i : goal.invariant-loop-i
invariant-loop-i l = record {
  spilled : AreSpilled l.point (take l.i l.spilled) l.initial.map l.map;
  given : AreGiven (take l.i l.spilled) l.initial.map.slots l.map.slots;
  count : l.given ≡ slots_given l.map.slots;
}
