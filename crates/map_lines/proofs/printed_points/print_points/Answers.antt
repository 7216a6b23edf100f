use Rattle.std.proofs.Common.{ℕ}
use Rattle.std.specs.Prelude.{slice_index, slice_index_or}
use Rattle.flow_graph.specs.declared.op.Op.TheVariants.{Turn}
use Rattle.map_text.specs.Words.{line_text, point_lines}
use Rattle.map_lines.specs.MapOf.{point_over}
use Rattle.map_lines.specs.Printing.{graph_of, home_of}
use Rattle.map_lines.proofs.PointTexts.{is-member}
use Rattle.map_lines.proofs.Texts.{each-put}
use Rattle.map_lines.proofs.printed_points.print_points.Goals as goal

pub print_point-requires-clause-placed : goal.print_point-requires-clause-placed
print_point-requires-clause-placed c =
    c.requires.placed _ (is-member c.args.points.now c.loop-point.point-index 0 c.loop-point-test.true)

pub print_point-requires-clause-address : goal.print_point-requires-clause-address
print_point-requires-clause-address c =
    c.requires.address _ (c.requires.placed _
    (is-member c.args.points.now c.loop-point.point-index 0 c.loop-point-test.true))

pub loop-point-preserved : goal.loop-point-preserved
loop-point-preserved c =
    let home = c.args.home.now in
    let flow = graph_of home in
    let address : ℕ → ℕ = λ q. slice_index c.args.addresses.now q in
    each-put line_text point_lines
    (λ (p : ℕ). point_over flow (home_of home) address p (slice_index_or flow.ops p Turn)) _ c.loop-point.out.items _
    c.args.points.now c.loop-point.point-index 0 c.loop-point-test.true c.loop-point.invariant
    c.in_ok-print_point.ensures
