use Rattle.std.proofs.Common.{◌++◌, ap, map}
use Rattle.c_tree.specs.Erased.{array_of}
use Rattle.c_check.proofs.Copied.{copied_more}
use Rattle.c_check.proofs.copies.copy_arrays.Goals as goal

pub loop-array-init : goal.loop-array-init
loop-array-init c = record {
  copied = ap (λ vs. map array_of vs ++ map array_of c.args.arrays.now) c.new-copies.ensures.items;
}

pub loop-array-preserved : goal.loop-array-preserved
loop-array-preserved c = record {
  copied = copied_more array_of c.loop-array.copies.items c.push.new.self.items c.args.arrays.now
      c.loop-array.array-index
      c.array-item.result c.in_ok-copy.copy c.loop-array-test.true c.array-item.is c.in_ok-copy.ensures
      c.in_ok-push.ensures.items c.loop-array.invariant.copied;
}
