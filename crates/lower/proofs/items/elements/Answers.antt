use Rattle.c_tree.specs.Erased.{expression_of}
use Rattle.lower_builder.specs.Sites.{context_of}
use Rattle.lower.proofs.Resting.{elements_more, elements_none}
use Rattle.lower.proofs.items.elements.Goals as goal

pub values-preserved : goal.values-preserved
values-preserved c = record {
  rests = elements_more expression_of (context_of c.args.site.now) c.args.t c.args.values.now c.values.place
      c.index-values-place.result _ c.values-test.true c.index-values-place.is
      c.values.invariant.rests c.in_ok-element.ensures;
}

pub returns : goal.returns
returns c = elements_none expression_of (context_of c.args.site.now) c.args.t c.args.values.now c.values.place
    c.values-test.false c.values.invariant.rests
