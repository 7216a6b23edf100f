use Rattle.std.proofs.Common.{◌<◌, ◌++◌, ℕ, List, [], length, ap, subst, ◌∙◌, arith}
use Rattle.std.specs.List.{flat_map}
use Rattle.std.specs.Prelude.{slice_index}
use Rattle.flow_graph.specs.Graphs.{Flow, IsIn, points_of}
use Rattle.map_text.specs.Words.{block_lines, line_text, point_lines}
use Rattle.map_lines.specs.MapOf.{block_over}
use Rattle.map_lines.specs.Printing.{graph_of, home_of}
use Rattle.map_lines.proofs.PointTexts.{block-put}
use Rattle.map_lines.proofs.Texts.{made-put}
use Rattle.map_lines.proofs.printed_points.print_blocks.Goals as goal

pub print_points-requires-clause-placed : goal.print_points-requires-clause-placed
print_points-requires-clause-placed c = λ p h.
    let points = c.as_slice.ensures.value ∙ c.in_ok-points.ensures
    ∙ ap (λ (flow : Flow). points_of flow c.loop-block.block) c.graph-graph.ensures in
    (c.loop-block.block, subst (λ (ps : List ℕ). IsIn p ps) points h)

pub loop-block-preserved : goal.loop-block-preserved
loop-block-preserved c =
    let home = c.args.home.now in
    let flow = graph_of home in
    let address : ℕ → ℕ = λ q. slice_index c.args.addresses.now q in
    let i = c.loop-block.block in
    let old = c.loop-block.out.items in
    let one = c.push_block.new.out.items in
    let points = c.as_slice.ensures.value ∙ c.in_ok-points.ensures
    ∙ ap (λ (flow : Flow). points_of flow i) c.graph-graph.ensures in
    let many = ap (λ (flow : Flow). length flow.blocks) c.graph-graph.ensures in
    let h : i < length flow.blocks = omega (arith, c.loop-block-test.true, c.blocks-block-end.ensures, many) in
    made-put line_text block_lines (block_over flow (home_of home) address) _ old _ flow.blocks i [] h
    c.loop-block.invariant
    (block-put line_text i (block_over flow (home_of home) address (points_of flow i)) old one _
    c.in_ok-push_block.ensures
    (c.in_ok-print_points.ensures
    ∙ ap (λ (ps : List ℕ). one ++ flat_map line_text (flat_map point_lines (block_over flow (home_of home) address ps)))
    points))
