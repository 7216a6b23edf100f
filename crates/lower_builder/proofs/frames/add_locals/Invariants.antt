use Rattle.std.proofs.Common.{◌≡◌, ◌++◌, drop, map}
use Rattle.c_tree.specs.Erased.{local_of}
use Rattle.lower_lines.specs.Shown.{local_widths}
use Rattle.lower_builder.proofs.frames.add_locals.Given as goal

abbrev pub invariant-loop-local : goal.invariant-loop-local
invariant-loop-local l = l.widths.items ++ local_widths (map local_of (drop l.local-index l.locals))
    ≡ l.initial.widths.items ++ local_widths (map local_of l.locals)
