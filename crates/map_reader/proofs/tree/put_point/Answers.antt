use Rattle.std.proofs.Common.{◌-◌, List, [], ◌∷◌, ◌++◌, map, ap, ◌∙◌, arith}
use Rattle.std.proofs.lemmas.List.{map-append}
use Rattle.map_text.specs.Maps as maps
use Rattle.map_file.specs.declared.file.MapBlock.{MapBlock}
use Rattle.map_file.specs.declared.file.MapPoint.{MapPoint}
use Rattle.map_file.specs.Views.{block_of, function_of, point_of}
use Rattle.map_reader.proofs.Trees.{last_put}
use Rattle.map_reader.proofs.tree.put_point.Goals as goal

pub returns : goal.returns
returns c =
    let change : List maps.MapPoint → List maps.MapPoint = λ points. points ++ point_of c.args.point ∷ [] in
    ap (λ (blocks : List (List maps.MapPoint)). record (function_of c.args.function.now) { blocks = blocks })
    (last_put block_of change c.args.function.now.blocks.items (c.len-count.result - 1) _
    (record { points = c.push.new.self })
    (omega (arith, c.len-count.ensures, c.if-count-eq0.false))
    (ap (λ (points : List MapPoint). map point_of points) c.in_ok-push.ensures.items
    ∙ map-append point_of _ (c.args.point ∷ [])
    ∙ ap (λ (b : MapBlock). change (block_of b)) c.index_mut-block.ensures.value))
