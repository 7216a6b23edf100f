-- The height of the statements from here on.
use Rattle.std.proofs.Common.{◌≡◌, ◌≤◌, drop, length}
use Rattle.c_tree.specs.Erased.{statements_of}
use Rattle.c_tree.specs.Sizes.{statements_height}
use Rattle.c_check.proofs.statement_heights.+statement.Given as goal

abbrev pub invariant-statements-body : goal.invariant-statements-body
invariant-statements-body l = record {
  within : l.left ≤ length l.body;
  height : l.height ≡ statements_height (statements_of (drop l.left l.body));
}

abbrev pub decreases-statements-body : goal.decreases-statements-body
decreases-statements-body l = l.left
