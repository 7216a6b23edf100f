-- The lines of the parameters from here on.
use Rattle.std.proofs.Common.{◌≡◌, ◌++◌, ◌-◌, map, drop, take}
use Rattle.c_tree.specs.Erased.{local_of}
use Rattle.lower_lines.specs.Programs.{parameters_lines}
use Rattle.lower_builder.specs.Sites.{context_of}
use Rattle.lower_expressions.proofs.parameters.take_first.Given as goal

abbrev pub invariant-locals : goal.invariant-locals
invariant-locals l = record {
  lines : l.lines.lines ++ parameters_lines (context_of l.site)
      (drop l.local (take l.count (map local_of l.locals))) l.local l.word
      ≡ l.initial.lines.lines ++ parameters_lines (context_of l.site) (take l.count (map local_of l.locals)) 0 0;
  next : l.lines.next ≡ l.initial.lines.next;
}

abbrev pub decreases-locals : goal.decreases-locals
decreases-locals l = l.count - l.local
