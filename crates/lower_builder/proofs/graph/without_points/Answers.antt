use Rattle.std.proofs.Common.{[], ℕ, List, length, arith, ap, sym, ◌∙◌}
use Rattle.std.proofs.lemmas.List.FromFn.{length-map-range_with_len, map-range_with_len_more}
use Rattle.flow_graph.specs.Graphs.{Flow, with_block}
use Rattle.lower_builder.proofs.graph.without_points.Goals as goal

pub add_block-requires : goal.add_block-requires
add_block-requires c =
    let none : ℕ → List ℕ = λ b. [] in
    let few = ap (λ (g : Flow). length g.blocks) c.loop-block.invariant
    ∙ length-map-range_with_len none 0 c.loop-block._block in
    let fits = c.ranges.blocks.fits in
    let below = c.loop-block-test.true in
    omega (arith, few, fits, below)

pub loop-block-preserved : goal.loop-block-preserved
loop-block-preserved c =
    let none : ℕ → List ℕ = λ b. [] in
    let n = c.loop-block._block in
    c.in_ok-add_block.ensures.1
    ∙ ap with_block c.loop-block.invariant
    ∙ ap (λ (bs : List (List ℕ)). record {
      widths = c.args.widths.now;
      arrays = c.args.arrays.now;
      blocks = bs;
      ops = [];
    }) (sym (map-range_with_len_more none 0 n n (omega arith)))
