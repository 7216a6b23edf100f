use Rattle.std.proofs.Common.{List, false, map, subst, true}
use Rattle.std.specs.Bool.{Decides}
use Rattle.std.specs.List.{All}
use Rattle.map_text.specs.Rules.{IsMapPoint}
use Rattle.map_file.specs.Views.{block_of, function_of, map_of, point_of}
use Rattle.map_file.specs.declared.file.MapPoint.{MapPoint}
use Rattle.map_file.proofs.Deciding.{each_is, flat_told, one_is, one_isnt}
use Rattle.map_file.proofs.points.are_points_of.Goals as goal

pub returns-then-not-fine : goal.returns-then-not-fine
returns-then-not-fine c =
    let same = c.deref-block-items.ensures.value in
    let h = rw same at c.loop-block-test.true in
    let is = rw same at c.block-item.is in
    let P = IsMapPoint (map_of c.args.file.now) (function_of c.args.function.now) in
    let blocks = c.args.function.now.blocks.items in
    let told = subst (λ (ps : List MapPoint). Decides c.in_ok-fine.fine (All P (map point_of ps)))
    c.as_slice.ensures.value c.in_ok-fine.ensures in
    flat_told P (map block_of blocks) false
    (one_isnt block_of (All P) blocks c.loop-block.block-index c.block-item.result c.in_ok-fine.fine h is
    c.if-not-fine.true told)

pub loop-block-preserved : goal.loop-block-preserved
loop-block-preserved c =
    let same = c.deref-block-items.ensures.value in
    let h = rw same at c.loop-block-test.true in
    let is = rw same at c.block-item.is in
    let P = IsMapPoint (map_of c.args.file.now) (function_of c.args.function.now) in
    let blocks = c.args.function.now.blocks.items in
    let told = subst (λ (ps : List MapPoint). Decides c.in_ok-fine.fine (All P (map point_of ps)))
    c.as_slice.ensures.value c.in_ok-fine.ensures in
    one_is block_of (All P) blocks c.loop-block.block-index c.block-item.result c.in_ok-fine.fine h is
    c.if-not-fine.false told c.loop-block.invariant

pub returns : goal.returns
returns c =
    let past = rw c.deref-block-items.ensures.value at c.loop-block-test.false in
    let P = IsMapPoint (map_of c.args.file.now) (function_of c.args.function.now) in
    let blocks = c.args.function.now.blocks.items in
    flat_told P (map block_of blocks) true
    (each_is block_of (All P) blocks c.loop-block.block-index past c.loop-block.invariant)
