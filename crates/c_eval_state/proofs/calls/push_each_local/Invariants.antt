use Rattle.std.proofs.Common.{◌≡◌, ◌++◌, map, take, drop, length}
use Rattle.c_eval_state.specs.Values.{held_of}
use Rattle.c_tree.specs.Erased.{local_of}
use Rattle.c_tree.specs.Store.{first_values}
use Rattle.c_eval_state.proofs.calls.push_each_local.Given as goal

abbrev pub invariant-loop-i : goal.invariant-loop-i
invariant-loop-i l =
    (map held_of l.values.items ++ first_values (drop l.i (map local_of l.locals)) (drop l.i (map held_of l.arguments))
    ≡ map held_of l.fn.values.items ++ first_values (map local_of l.locals) (map held_of l.arguments))
    × (take (length l.fn.values.items) l.values.items ≡ l.fn.values.items)
