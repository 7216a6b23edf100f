use Rattle.std.proofs.Common.{◌≡◌, [], ◌∷◌, ◌++◌, ◌∙◌, false, List, Bool, map, ap, subst, sym}
use Rattle.std.specs.Bool.{Decides}
use Rattle.std.proofs.lemmas.List.{map-append}
use Rattle.map_text.specs.Maps as maps
use Rattle.map_text.specs.Rules.{IsMapBlock}
use Rattle.map_file.specs.Views.{point_of}
use Rattle.map_file.specs.declared.file.MapPoint.{MapPoint}
use Rattle.map_file.proofs.Blocks.{no_end, others_tell}
use Rattle.map_file.proofs.points.is_block.Goals as goal

-- the points of the block, the last one apart
split : (items deref others : List MapPoint) (last : MapPoint) → deref ≡ items → deref ≡ others ++ last ∷ []
    → map point_of others ++ point_of last ∷ [] ≡ map point_of items
split items deref others last e cut =
    sym (map-append point_of others (last ∷ []))
    ∙ ap (λ (ps : List MapPoint). map point_of ps) (sym cut ∙ e)

pub returns-then-is_end : goal.returns-then-is_end
returns-then-is_end c =
    let others = c.in-Some.others.now in
    let last = c.in-Some.last.now in
    let same = split c.args.block.now.points.items c.deref.result.now others last c.deref.ensures.value
    c.in-Some.ensures.cases.0 in
    subst (λ (ps : List maps.MapPoint). Decides c.are_no_ends.result (IsMapBlock ps)) same
    (others_tell (map point_of others) (point_of last) c.are_no_ends.result (sym c.is_end.ensures ∙ c.if-is_end.true)
    c.are_no_ends.ensures)

pub returns-else-is_end : goal.returns-else-is_end
returns-else-is_end c =
    let others = c.in-Some.others.now in
    let last = c.in-Some.last.now in
    let same = split c.args.block.now.points.items c.deref.result.now others last c.deref.ensures.value
    c.in-Some.ensures.cases.0 in
    let told : Decides false (IsMapBlock (map point_of others ++ point_of last ∷ [])) =
    no_end (map point_of others) (point_of last) (sym c.is_end.ensures ∙ c.if-is_end.false) in
    subst (λ (r : Bool). Decides r (IsMapBlock (map point_of c.args.block.now.points.items))) (sym c.if-is_end.false)
    (subst (λ (ps : List maps.MapPoint). Decides false (IsMapBlock ps)) same told)
