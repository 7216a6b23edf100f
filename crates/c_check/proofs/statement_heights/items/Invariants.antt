-- The greatest height from here on.
use Rattle.std.proofs.Common.{◌≡◌, ◌≤◌, map, drop, length}
use Rattle.c_tree.specs.Erased.{item_of}
use Rattle.c_tree.specs.Sizes.{items_height}
use Rattle.c_check.proofs.statement_heights.items.Given as goal

abbrev pub invariant-items : goal.invariant-items
invariant-items l = record {
  within : l.left ≤ length l.of;
  height : l.height ≡ items_height (map item_of (drop l.left l.of));
}

abbrev pub decreases-items : goal.decreases-items
decreases-items l = l.left
