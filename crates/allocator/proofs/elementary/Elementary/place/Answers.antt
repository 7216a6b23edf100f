use Rattle.std.proofs.Common.{◌<◌, subst, rules}
use Rattle.allocator.specs.SplitForms.{Form, placed_count}
use Rattle.allocator.proofs.Placing.{place-there}
use Rattle.allocator.proofs.elementary.Elementary.place.Goals as goal

pub returns-clause-there : goal.returns-clause-there
returns-clause-there c =
    place-there c.args.self.now.graph c.args.point c.flatten.result (search rules)
    (subst (λ (form : Form). placed_count form.graph < 0x80000000) c.self.view_is c.self.invariant.0.few)
