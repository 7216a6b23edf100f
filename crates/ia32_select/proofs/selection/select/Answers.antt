use Rattle.std.proofs.Common.{ap, ◌∙◌}
use Rattle.ia32_emit.specs.Locations.{slots_of}
use Rattle.ia32_select.proofs.Selected.{selection-is}
use Rattle.ia32_select.proofs.selection.select.Goals as goal

pub returns : goal.returns
returns c =
    selection-is c.args.graph.now c.is_flow.ensures.0 c.args.map.now c.in_ok-moves.moves (slots_of c.as_slice.result.now)
    c.in_ok-items.items.items c.is_flow.ensures.1 c.requires c.selected_is_code.ensures c.in_ok-moves.ensures
    (ap slots_of c.as_slice.ensures.value ∙ c.in_ok-arrays.ensures.offsets) c.in_ok-items.ensures
