use Rattle.std.proofs.Common.{◌≡◌, max, drop, map}
use Rattle.c_tree.specs.Erased.{expression_of}
use Rattle.c_tree.specs.Sizes as sizes
use Rattle.lower_builder.proofs.heights.highest.Given as goal

abbrev pub invariant-loop-e : goal.invariant-loop-e
invariant-loop-e l = max l.most (sizes.highest 2 (map expression_of (drop l.e-index l.values)))
    ≡ sizes.highest 2 (map expression_of l.values)
