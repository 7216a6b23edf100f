use Rattle.std.proofs.Common.{◌≡◌, map, take}
use Rattle.c_tree.specs.Erased.{object_of as typed_object}
use Rattle.c_tree.specs.Objects.{data_object}
use Rattle.pcc_base.specs.Objects.{object_of}
use Rattle.lower.proofs.objects.objects_of.Given as goal

abbrev pub invariant-loop-static_object : goal.invariant-loop-static_object
invariant-loop-static_object l = map object_of l.data.items
    ≡ map data_object (map typed_object (take l.static_object-index l.objects))
