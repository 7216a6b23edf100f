-- The items of the graph can be selected over its map.
use Rattle.ia32_tests.proofs.Allocated.{can-select}
use Rattle.ia32_tests.proofs.functions.items_of.Goals as goal

pub select-requires : goal.select-requires
select-requires c =
    can-select c.args.graph.now c.args.sets.now _ _ c.in_ok-form.ensures c.requires.live c.requires.first
    c.requires.within c.requires.none c.in_ok-places.ensures.allocated c.in_ok-places.ensures.legal c.requires.small
    c.requires.labels
