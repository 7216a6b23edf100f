-- The move of a variable, by where it stands on both sides.
use Rattle.std.proofs.Common.{sym, ap, ◌∙◌}
use Rattle.ia32_placements.specs.Standings.{standing_after, standing_before, standing_if_any}
use Rattle.ia32_emit.specs.Locations.{place_of}
use Rattle.ia32_select.proofs.Gathering.{edge-points, found-nowhere, found-there, stays-idle, stays-unwanted, within}
use Rattle.ia32_select.proofs.Offsets.{frame-within}
use Rattle.ia32_select.proofs.edges.move_of.Goals as goal

pub before-requires : goal.before-requires
before-requires c =
    let e = c.args.edge.now in
    (edge-points e.graph.now c.is_flow.ensures.0 e.map.now c.is_flow.ensures.1 c.requires.selects e.point e.next
    c.requires.leads).1

pub after-requires : goal.after-requires
after-requires c =
    let e = c.args.edge.now in
    (edge-points e.graph.now c.is_flow.ensures.0 e.map.now c.is_flow.ensures.1 c.requires.selects e.point e.next
    c.requires.leads).0

pub width-width-requires : goal.width-width-requires
width-width-requires c =
    let e = c.args.edge.now in
    within e.graph.now c.is_flow.ensures.0 e.map.now c.is_flow.ensures.1 c.requires.selects.legal
    (frame-within e.graph.now e.map.now c.requires.selects) e.point e.next c.requires.leads c.args.variable
    (place_of c.in-Some-location_if_any.from)
    (found-there c.location_if_any-in-Some.result c.in-Some-location_if_any.from
    (standing_after e.map.now e.point c.args.variable)
    (c.location_if_any-in-Some.ensures ∙ ap standing_if_any c.after.ensures) c.in-Some-location_if_any.is)

pub returns-else-is_busy : goal.returns-else-is_busy
returns-else-is_busy c =
    let e = c.args.edge.now in
    stays-idle e.graph.now c.is_flow.ensures.0 e.map.now c.is_flow.ensures.1 c.requires.selects.legal
    (frame-within e.graph.now e.map.now c.requires.selects) e.point e.next c.requires.leads c.args.variable
    (record { from = c.in-Some-location_if_any.from; to = c.in-Some.to; width = c.width-width.result })
    (found-there c.location_if_any-in-Some.result c.in-Some-location_if_any.from
    (standing_after e.map.now e.point c.args.variable)
    (c.location_if_any-in-Some.ensures ∙ ap standing_if_any c.after.ensures) c.in-Some-location_if_any.is)
    (found-there c.location_if_any.result c.in-Some.to (standing_before e.map.now e.next c.args.variable)
    (c.location_if_any.ensures ∙ ap standing_if_any c.before-2.ensures) c.in-Some.is)
    (sym c.is_busy.ensures ∙ c.if-is_busy.false)

pub returns-in-None-location_if_any : goal.returns-in-None-location_if_any
returns-in-None-location_if_any c =
    let e = c.args.edge.now in
    stays-unwanted e.graph.now c.is_flow.ensures.0 e.map.now c.is_flow.ensures.1 c.requires.selects.legal
    (frame-within e.graph.now e.map.now c.requires.selects) e.point e.next c.requires.leads c.args.variable
    (found-nowhere c.location_if_any-in-Some.result (standing_after e.map.now e.point c.args.variable)
    (c.location_if_any-in-Some.ensures ∙ ap standing_if_any c.after.ensures) c.in-None-location_if_any.is)
