use Rattle.std.proofs.Common.{◌≡◌, max, drop}
use Rattle.c_tree.specs.Erased.{statements_of}
use Rattle.c_tree.specs.Sizes as sizes
use Rattle.lower_builder.proofs.heights.+statement_height.Given as goal

abbrev pub invariant-statements_height-loop-s : goal.invariant-statements_height-loop-s
invariant-statements_height-loop-s l =
    max l.most (sizes.statements_height (statements_of (drop l.s-index l.body)))
    ≡ sizes.statements_height (statements_of l.body)
