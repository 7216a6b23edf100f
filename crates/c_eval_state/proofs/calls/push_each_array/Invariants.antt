use Rattle.std.proofs.Common.{◌≡◌, ◌++◌, map, take}
use Rattle.c_tree.specs.Erased.{array_of}
use Rattle.c_tree.specs.Store.{first_array}
use Rattle.c_eval_state.proofs.calls.push_each_array.Given as goal

abbrev pub invariant-loop-array : goal.invariant-loop-array
invariant-loop-array l =
    l.arrays ≡ l.fn.arrays ++ map first_array (map array_of (take l.array-index l.more))
