-- The lines of the items from here on.
use Rattle.std.proofs.Common.{◌-◌, map, drop, length}
use Rattle.c_tree.specs.Erased.{item_of}
use Rattle.lower_lines.specs.Statements.{items_blocks, items_lines}
use Rattle.lower_builder.specs.Sites.{context_of}
use Rattle.lower.proofs.Resting.{Rests}
use Rattle.lower.proofs.items.items.Given as goal

abbrev pub invariant-items : goal.invariant-items
invariant-items l = record {
  rests : Rests l.lines (items_blocks (context_of l.site) (drop l.place (map item_of l.of)))
      (items_lines (context_of l.site) (drop l.place (map item_of l.of)))
      l.initial.lines (items_blocks (context_of l.site) (map item_of l.of))
      (items_lines (context_of l.site) (map item_of l.of) l.initial.lines.next);
}

abbrev pub decreases-items : goal.decreases-items
decreases-items l = length l.of - l.place
