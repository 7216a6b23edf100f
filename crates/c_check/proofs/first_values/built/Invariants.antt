-- The objects so far.
use Rattle.std.proofs.Common.{◌≡◌, map, take}
use Rattle.c_tree.specs.Erased.{object_of}
use Rattle.c_check.specs.Tables.{object_described}
use Rattle.c_check.proofs.first_values.built.Given as goal

abbrev pub invariant-objects : goal.invariant-objects
invariant-objects l = map object_of l.objects.items ≡ map object_described (take l.one-index l.described)
