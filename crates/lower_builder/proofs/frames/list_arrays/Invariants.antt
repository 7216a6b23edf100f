use Rattle.std.proofs.Common.{◌≡◌, map, take}
use Rattle.c_tree.specs.Erased.{array_of as local_array}
use Rattle.lower_lines.specs.Lowering.{array_of}
use Rattle.lower_builder.proofs.frames.list_arrays.Given as goal

abbrev pub invariant-loop-array : goal.invariant-loop-array
invariant-loop-array l = l.arrays.items ≡ map array_of (map local_array (take l.array-index l.locals))
