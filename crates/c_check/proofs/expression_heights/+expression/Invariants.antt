-- The height of the arguments from here on.
use Rattle.std.proofs.Common.{◌≡◌, ◌≤◌, map, drop, length}
use Rattle.c_tree.specs.Erased.{expression_of}
use Rattle.c_tree.specs.Sizes.{arguments_height}
use Rattle.c_check.specs.Lists.{arguments_from}
use Rattle.c_check.proofs.expression_heights.+expression.Given as goal

abbrev pub invariant-arguments-values : goal.invariant-arguments-values
invariant-arguments-values l = record {
  within : l.left ≤ length l.values;
  height : l.height ≡ arguments_height (arguments_from (map expression_of (drop l.left l.values))) l.left;
}

abbrev pub decreases-arguments-values : goal.decreases-arguments-values
decreases-arguments-values l = l.left
