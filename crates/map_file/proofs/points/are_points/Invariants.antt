use Rattle.map_text.specs.Rules.{IsMapPoint}
use Rattle.map_file.specs.Views.{function_of, map_of, point_of}
use Rattle.map_file.proofs.Deciding.{EachSoFar}
use Rattle.map_file.proofs.points.are_points.Given as goal

-- the function may have each point so far
abbrev pub invariant-loop-point : goal.invariant-loop-point
invariant-loop-point l =
    EachSoFar point_of (IsMapPoint (map_of l.file) (function_of l.function)) l.points l.point-index
