use Rattle.std.proofs.Common.{◌≡◌, ℕ, List, ◌∙◌, map, subst}
use Rattle.std.specs.Bool.{Decides}
use Rattle.std.specs.List.{flat_map}
use Rattle.flow_graph.specs.Graphs.{IsDistinct}
use Rattle.map_text.specs.Maps as maps
use Rattle.map_file.specs.Views.{block_of}
use Rattle.map_file.specs.declared.file.MapBlock.{MapBlock}
use Rattle.map_file.proofs.Blocks.{all_put, made_flat}
use Rattle.map_file.proofs.points.have_distinct_numbers.Goals as goal

pub returns : goal.returns
returns c =
    let blocks = c.args.function.now.blocks.items in
    let number : maps.MapPoint → ℕ = λ p. p.number in
    let put : MapBlock → List ℕ = λ b. map number (block_of b) in
    let past = rw c.deref-block-items.ensures.value at c.loop-block-test.false in
    let same : c.loop-block.numbers.items ≡ map number (flat_map (λ ps. ps) (map block_of blocks)) =
    all_put put (flat_map put blocks) c.loop-block.numbers.items blocks c.loop-block.block-index past
    c.loop-block.invariant
    ∙ made_flat number block_of blocks in
    subst (λ (ns : List ℕ). Decides c.are_distinct.result (IsDistinct ns)) same c.are_distinct.ensures
