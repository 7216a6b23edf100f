use Rattle.std.proofs.Common.{◌≡◌, max, drop}
use Rattle.c_tree.specs.Sizes as sizes
use Rattle.lower_builder.specs.Lists.{arguments_list}
use Rattle.lower_builder.proofs.heights.+height.Given as goal

abbrev pub invariant-arguments_height-loop-e : goal.invariant-arguments_height-loop-e
invariant-arguments_height-loop-e l =
    max l.most (sizes.arguments_height (arguments_list (drop l.e-index l.arguments)) l.place)
    ≡ sizes.arguments_height (arguments_list l.arguments) 0
