use Rattle.std.proofs.Common.{[], refl}
use Rattle.flow_graph.proofs.Keeps.{flow-empty}
use Rattle.flow_graph.proofs.graph.Graph.new.Goals as goal

pub invariant_of-result : goal.invariant_of-result
invariant_of-result c =
    rw (c.new.ensures.items, c.new-2.ensures.items, c.in_ok-new.ensures, c.new-4.ensures.items) ([], flow-empty, refl)
