use Rattle.std.proofs.Common.{◌++◌, ap, map}
use Rattle.c_tree.specs.Erased.{local_of}
use Rattle.c_check.proofs.Copied.{copied_more}
use Rattle.c_check.proofs.copies.copy_locals.Goals as goal

pub loop-local-init : goal.loop-local-init
loop-local-init c = record {
  copied = ap (λ vs. map local_of vs ++ map local_of c.args.locals.now) c.new-copies.ensures.items;
}

pub loop-local-preserved : goal.loop-local-preserved
loop-local-preserved c = record {
  copied = copied_more local_of c.loop-local.copies.items c.push.new.self.items c.args.locals.now
      c.loop-local.local-index
      c.local-item.result c.in_ok-copy.copy c.loop-local-test.true c.local-item.is c.in_ok-copy.ensures
      c.in_ok-push.ensures.items c.loop-local.invariant.copied;
}
