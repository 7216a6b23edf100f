use Rattle.std.proofs.Common.{◌-◌, List, ap, ◌∙◌, arith}
use Rattle.map_text.specs.Maps.{MapPoint}
use Rattle.map_text.specs.Reading.{in_last}
use Rattle.map_file.specs.declared.file.MapBlock.{MapBlock}
use Rattle.map_file.specs.Views.{block_of, function_of}
use Rattle.map_reader.specs.Parts.{part_put}
use Rattle.map_reader.specs.Views.{line_of}
use Rattle.map_reader.proofs.Trees.{last_put}
use Rattle.map_reader.proofs.tree.put_in_block.Goals as goal

pub returns : goal.returns
returns c =
    let change = in_last (part_put (line_of c.args.line)) in
    ap (λ (blocks : List (List MapPoint)). record (function_of c.args.function.now) { blocks = blocks })
    (last_put block_of change c.args.function.now.blocks.items (c.len-count.result - 1) _ c.put_in_point.new.block
    (omega (arith, c.len-count.ensures, c.if-count-eq0.false))
    (c.put_in_point.ensures ∙ ap (λ (b : MapBlock). change (block_of b)) c.index_mut.ensures.value))
