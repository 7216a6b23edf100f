use Rattle.std.proofs.Common.{◌<◌, length, refl, rules}
use Rattle.std.proofs.lemmas.Option.{slice_get_read}
use Rattle.flow_graph.proofs.Keeps.{has_op}
use Rattle.flow_graph.proofs.graph.Graph.op.Goals as goal

pub index-requires : goal.index-requires
index-requires c =
    let i = c.self.invariant in
    let h : c.args.point < length c.self.inside.ops.items =
    has_op _ c.args.self.now i.0 c.args.point c.self.view_is i.1 c.requires in
    search rules

pub returns : goal.returns
returns c =
    let i = c.self.invariant in
    rw (← c.self.view_is) (slice_get_read c.self.inside.ops.items
    (length c.self.inside.ops.items) c.args.point c.index.result.now refl
    (has_op _ c.args.self.now i.0 c.args.point c.self.view_is i.1 c.requires) c.index.ensures)
