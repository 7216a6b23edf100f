-- What was copied so far, and the rest, are all of them.
use Rattle.std.proofs.Common.{◌≡◌, ◌++◌, map, drop}
use Rattle.c_tree.specs.Erased.{array_of}
use Rattle.c_check.proofs.copies.copy_arrays.Given as goal

abbrev pub invariant-loop-array : goal.invariant-loop-array
invariant-loop-array l =
    record {
      copied : (map array_of l.copies.items ++ map array_of (drop l.array-index l.arrays)) ≡ map array_of l.arrays;
    }
