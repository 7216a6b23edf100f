use Rattle.std.proofs.Common.{◌≡◌, max, drop, map}
use Rattle.c_tree.specs.Erased.{item_of}
use Rattle.c_tree.specs.Sizes as sizes
use Rattle.lower_builder.proofs.heights.items_height.Given as goal

abbrev pub invariant-loop-item : goal.invariant-loop-item
invariant-loop-item l = max l.most (sizes.items_height (map item_of (drop l.item-index l.items)))
    ≡ sizes.items_height (map item_of l.items)
