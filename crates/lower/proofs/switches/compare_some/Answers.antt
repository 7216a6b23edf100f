use Rattle.std.proofs.Common.{arith}
use Rattle.lower_builder.specs.Sites.{context_of}
use Rattle.lower.proofs.Comparisons.{compare-last, compare-more}
use Rattle.lower.proofs.switches.compare_some.Goals as goal

pub cases-preserved : goal.cases-preserved
cases-preserved c = record {
  there = omega (arith, c.cases-test.true);
  rests = compare-more (context_of c.args.site.now) c.args.x c.args.otherwise c.args.cases.now c.cases.place
      c.cases.block c.in_ok-block.block _ c.cases-test.true c.in_ok-block.ensures c.cases.invariant.rests
      c.in_ok-compare_one.ensures c.in_ok-start.ensures;
}

pub returns : goal.returns
returns c = compare-last (context_of c.args.site.now) c.args.x c.args.otherwise c.args.cases.now c.cases.place
    c.cases.block _ c.cases.invariant.there c.cases-test.false c.cases.invariant.rests
    c.in_ok-compare_one-2.ensures
