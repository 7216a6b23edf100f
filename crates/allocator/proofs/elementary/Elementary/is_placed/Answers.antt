use Rattle.std.proofs.Common.{◌↔◌, Bool, IsTrue, subst, sym}
use Rattle.flow_graph.specs.Graphs.{IsPlaced}
use Rattle.allocator.proofs.Placing.{placed-told}
use Rattle.allocator.proofs.elementary.Elementary.is_placed.Goals as goal

pub returns : goal.returns
returns c =
    let flow = c.args.self.now.graph in
    let told = placed-told flow c.args.point c.place.result c.place.ensures.value c.place.ensures.there in
    subst (λ (b : Bool). IsTrue b ↔ IsPlaced flow c.args.point) (sym c.is_some.ensures) told
