use Rattle.map_text.specs.Rules.{IsMapPoint}
use Rattle.map_file.specs.Views.{function_of, map_of, point_of}
use Rattle.map_file.proofs.Deciding.{each_is, one_is, one_isnt}
use Rattle.map_file.proofs.points.are_points.Goals as goal

pub returns-then-not-fine : goal.returns-then-not-fine
returns-then-not-fine c =
    let P = IsMapPoint (map_of c.args.file.now) (function_of c.args.function.now) in
    one_isnt point_of P c.args.points.now c.loop-point.point-index c.point-item.result _ c.loop-point-test.true
    c.point-item.is c.if-not-fine.true c.in_ok-fine.ensures

pub loop-point-preserved : goal.loop-point-preserved
loop-point-preserved c =
    let P = IsMapPoint (map_of c.args.file.now) (function_of c.args.function.now) in
    one_is point_of P c.args.points.now c.loop-point.point-index c.point-item.result _ c.loop-point-test.true
    c.point-item.is c.if-not-fine.false c.in_ok-fine.ensures c.loop-point.invariant

pub returns : goal.returns
returns c =
    let P = IsMapPoint (map_of c.args.file.now) (function_of c.args.function.now) in
    each_is point_of P c.args.points.now c.loop-point.point-index c.loop-point-test.false c.loop-point.invariant
