use Rattle.std.proofs.Common.{◌≡◌, map, take}
use Rattle.c_tree.specs.Erased.{object_of}
use Rattle.c_eval_state.proofs.store.Store.new.Given as goal

abbrev pub invariant-loop-object : goal.invariant-loop-object
invariant-loop-object l = l.objects ≡ map (λ o. o.elements) (map object_of
    (take l.object-index l.program.objects.items))
