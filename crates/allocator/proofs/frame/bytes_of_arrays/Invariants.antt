use Rattle.std.proofs.Common.{◌≡◌, take}
use Rattle.allocator.specs.PointMaps.{bytes_of_arrays}
use Rattle.allocator.proofs.frame.bytes_of_arrays.Given as goal

abbrev pub invariant-loop-array : goal.invariant-loop-array
invariant-loop-array l = l.bytes ≡ bytes_of_arrays (take l.array l.graph.arrays)
