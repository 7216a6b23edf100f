-- The bytes of the objects from here on.
use Rattle.std.proofs.Common.{◌≡◌, ◌≤◌, map, drop, length}
use Rattle.std.specs.Prelude.{sum_by}
use Rattle.c_typing.specs.Typed.{object_bytes}
use Rattle.c_check.specs.Tables.{object_described}
use Rattle.c_check.proofs.first_values.arrays_bytes.Given as goal

abbrev pub invariant-objects : goal.invariant-objects
invariant-objects l = record {
  within : l.left ≤ length l.objects;
  sum : l.sum ≡ sum_by object_bytes (map object_described (drop l.left l.objects));
}

abbrev pub decreases-objects : goal.decreases-objects
decreases-objects l = l.left
