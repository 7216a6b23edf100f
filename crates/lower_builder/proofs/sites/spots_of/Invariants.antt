use Rattle.std.proofs.Common.{◌≡◌, ◌+◌, ◌++◌, drop, length, map}
use Rattle.c_tree.specs.Erased.{local_of}
use Rattle.lower_lines.specs.Shown.{local_widths}
use Rattle.lower_builder.specs.Spots.{spot_of, spots_from}
use Rattle.lower_builder.proofs.sites.spots_of.Given as goal

abbrev pub invariant-loop-local : goal.invariant-loop-local
invariant-loop-local l = record {
  listed : map spot_of l.spots.items ++ spots_from l.first (map local_of (drop l.local-index l.locals))
      ≡ spots_from 0 (map local_of l.locals);
  counted : l.first + length (local_widths (map local_of (drop l.local-index l.locals)))
      ≡ length (local_widths (map local_of l.locals));
}
