-- The first large frame from here on.
use Rattle.std.proofs.Common.{◌≡◌, ◌≤◌, map, drop, length}
use Rattle.c_tree.specs.Erased.{function_of}
use Rattle.c_typing.specs.Typed.{large_frame}
use Rattle.c_check.proofs.limits.large_frame.Given as goal

abbrev pub invariant-functions : goal.invariant-functions
invariant-functions l = record {
  within : l.left ≤ length l.functions;
  found : l.found ≡ large_frame l.left (map function_of (drop l.left l.functions));
}

abbrev pub decreases-functions : goal.decreases-functions
decreases-functions l = l.left
