use Rattle.c_tree.specs.Erased.{item_of}
use Rattle.lower_builder.specs.Sites.{context_of}
use Rattle.lower.proofs.Resting.{items_more, items_none}
use Rattle.lower.proofs.items.items.Goals as goal

pub items-preserved : goal.items-preserved
items-preserved c = record {
  rests = items_more item_of (context_of c.args.site.now) c.args.of.now c.items.place
      c.index-of-place.result _ c.items-test.true c.index-of-place.is c.items.invariant.rests c.in_ok-item.ensures;
}

pub returns : goal.returns
returns c = items_none item_of (context_of c.args.site.now) c.args.of.now c.items.place
    c.items-test.false c.items.invariant.rests
