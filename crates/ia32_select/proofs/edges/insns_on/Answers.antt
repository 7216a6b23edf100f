-- The moves can be made at once, and bring each variable to its new place.
use Rattle.std.proofs.Common.{List, sym, subst}
use Rattle.parallel_copies.specs.declared.moves.Move.{Move}
use Rattle.parallel_copies.specs.Copies.{AreMoves, CopyAtOnce}
use Rattle.ia32_select.proofs.Bridging.{are-between, can-be-made}
use Rattle.ia32_select.proofs.Offsets.{frame-within}
use Rattle.ia32_select.proofs.edges.insns_on.Goals as goal

pub repair-requires : goal.repair-requires
repair-requires c =
    let e = c.args.edge.now in
    subst (λ (l : List Move). AreMoves 16 l) (sym c.as_slice.ensures.value)
    (can-be-made e.graph.now c.is_flow.ensures.0 e.map.now c.is_flow.ensures.1 c.requires.selects.legal
    (frame-within e.graph.now e.map.now c.requires.selects) e.point e.next c.requires.leads c.moves_on-moves.ensures.0
    c.moves_on-moves.result.items c.moves_on-moves.ensures.1.moves_of)

pub returns : goal.returns
returns c =
    let e = c.args.edge.now in
    are-between e.graph.now c.is_flow.ensures.0 e.map.now c.is_flow.ensures.1 c.requires.selects.legal
    (frame-within e.graph.now e.map.now c.requires.selects) e.point e.next c.requires.leads c.moves_on-moves.ensures.0
    c.moves_on-moves.result.items c.repair.result.items c.moves_on-moves.ensures.1
    (subst (λ (l : List Move). CopyAtOnce l 16 c.repair.result.items) c.as_slice.ensures.value c.repair.ensures.copies)
    c.repair.ensures.few c.repair.ensures.straight c.repair.ensures.spelled
