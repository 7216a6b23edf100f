-- What was copied so far, and the rest, are all of them.
use Rattle.std.proofs.Common.{◌≡◌, ◌++◌, map, drop}
use Rattle.c_tree.specs.Erased.{local_of}
use Rattle.c_check.proofs.copies.copy_locals.Given as goal

abbrev pub invariant-loop-local : goal.invariant-loop-local
invariant-loop-local l =
    record {
      copied : (map local_of l.copies.items ++ map local_of (drop l.local-index l.locals)) ≡ map local_of l.locals;
    }
