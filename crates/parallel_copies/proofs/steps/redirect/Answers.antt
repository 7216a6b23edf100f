use Rattle.std.proofs.Common.{◌≡◌}
use Rattle.parallel_copies.specs.Steps.{redirected}
use Rattle.parallel_copies.proofs.Doing.{redirected-more}
use Rattle.parallel_copies.proofs.steps.redirect.Goals as goal

pub loop-m-preserved : goal.loop-m-preserved
loop-m-preserved c =
    redirected-more (redirected c.args.old c.args.new) c.args.waiting.now c.loop-m.waiting c.loop-m.m-index _
    c.redirected.result c.loop-m-test.true c.loop-m.auto.waiting c.loop-m.invariant c.redirected.ensures
