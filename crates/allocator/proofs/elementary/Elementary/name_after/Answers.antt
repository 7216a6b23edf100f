use Rattle.std.proofs.Common.{sym, subst}
use Rattle.flow_graph.specs.Graphs.{IsPlaced}
use Rattle.allocator.specs.SplitForms.{Form}
use Rattle.allocator.proofs.elementary.Elementary.name_after.Goals as goal

pub is_named_after-requires-clause-placed : goal.is_named_after-requires-clause-placed
is_named_after-requires-clause-placed c =
    subst (λ (form : Form). IsPlaced form.graph c.args.point) (sym c.self.view_is)
    (c.in_ok-place.ensures {u = tt}).there.1
