use Rattle.std.proofs.Common.{◌≡◌, ℕ, Some, sym, ap, subst, ◌∙◌}
use Rattle.std.specs.Prelude.{slice_get, slice_index}
use Rattle.flow_graph.specs.Graphs.{Flow}
use Rattle.map_text.specs.Words.{line_text}
use Rattle.map_lines.specs.Printing.{graph_of, home_of}
use Rattle.map_lines.proofs.PointTexts.{point-put}
use Rattle.map_lines.proofs.printed_points.print_point.Goals as goal

pub returns : goal.returns
returns c =
    let home = c.args.home.now in
    let address : ℕ → ℕ = λ q. slice_index c.args.addresses.now q in
    point-put line_text (graph_of home) (home_of home) address c.args.point c.op-op.result.now c.areas_of.result
    c.as_slice.result.now c.entries_before.result.now c.entries_after.result.now c.spilled.result.now
    c.args.out.now.items c.push_point.new.out.items c.push_board.new.out.items c.push_before.new.out.items
    c.push_after.new.out.items _
    (subst (λ (flow : Flow). slice_get flow.ops c.args.point ≡ Some c.op-op.result.now) c.graph.ensures c.op-op.ensures)
    c.areas_of.ensures (c.in_ok-pieces.ensures.value ∙ ap Some (sym c.as_slice.ensures.value))
    c.entries_before.ensures c.entries_after.ensures c.spilled.ensures c.in_ok-push_point.ensures
    c.in_ok-push_board.ensures c.in_ok-push_before.ensures c.in_ok-push_after.ensures c.in_ok-push_spilled.ensures
