-- The bytes of the arrays from here on.
use Rattle.std.proofs.Common.{◌≡◌, ◌≤◌, map, drop, length}
use Rattle.std.specs.Prelude.{sum_by}
use Rattle.c_tree.specs.Erased.{array_of}
use Rattle.c_tree.specs.Sizes.{array_bytes}
use Rattle.c_check.proofs.frame_sizes.arrays_bytes.Given as goal

abbrev pub invariant-arrays : goal.invariant-arrays
invariant-arrays l = record {
  within : l.left ≤ length l.arrays;
  sum : l.sum ≡ sum_by array_bytes (map array_of (drop l.left l.arrays));
}

abbrev pub decreases-arrays : goal.decreases-arrays
decreases-arrays l = l.left
