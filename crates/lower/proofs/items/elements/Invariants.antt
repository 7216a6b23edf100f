-- The lines of the elements from here on.
use Rattle.std.proofs.Common.{◌-◌, map, drop, length}
use Rattle.c_tree.specs.Erased.{expression_of}
use Rattle.lower_lines.specs.Statements.{elements_blocks, elements_lines}
use Rattle.lower_builder.specs.Sites.{context_of}
use Rattle.lower.proofs.Resting.{Rests}
use Rattle.lower.proofs.items.elements.Given as goal

abbrev pub invariant-values : goal.invariant-values
invariant-values l = record {
  rests : Rests l.lines (elements_blocks (context_of l.site) (drop l.place (map expression_of l.values)))
      (elements_lines (context_of l.site) l.t l.place (drop l.place (map expression_of l.values)))
      l.initial.lines (elements_blocks (context_of l.site) (map expression_of l.values))
      (elements_lines (context_of l.site) l.t 0 (map expression_of l.values) l.initial.lines.next);
}

abbrev pub decreases-values : goal.decreases-values
decreases-values l = length l.values - l.place
