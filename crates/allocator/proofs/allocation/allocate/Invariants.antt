use Rattle.std.proofs.Common.{◌≡◌}
use Rattle.allocator.specs.Progress.{IsDoneTo}
use Rattle.allocator.specs.Slots.{slots_given}
use Rattle.allocator.proofs.allocation.allocate.Given as goal

abbrev pub invariant-loop-point : goal.invariant-loop-point
invariant-loop-point l = record {
  done : IsDoneTo l.form l.point l.map;
  count : l.given ≡ slots_given l.map.slots;
}
