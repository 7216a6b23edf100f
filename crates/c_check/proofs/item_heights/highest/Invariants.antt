-- The greatest height from here on.
use Rattle.std.proofs.Common.{◌≡◌, ◌≤◌, map, drop, length}
use Rattle.c_tree.specs.Erased.{expression_of}
use Rattle.c_tree.specs.Sizes.{highest}
use Rattle.c_check.proofs.item_heights.highest.Given as goal

abbrev pub invariant-values : goal.invariant-values
invariant-values l = record {
  within : l.left ≤ length l.values;
  height : l.height ≡ highest l.by (map expression_of (drop l.left l.values));
}

abbrev pub decreases-values : goal.decreases-values
decreases-values l = l.left
