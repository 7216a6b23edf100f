use Rattle.std.specs.List.{All}
use Rattle.map_text.specs.Rules.{IsMapPoint}
use Rattle.map_file.specs.Views.{block_of, function_of, map_of}
use Rattle.map_file.proofs.Deciding.{EachSoFar}
use Rattle.map_file.proofs.points.are_points_of.Given as goal

-- the function may have each point of the blocks so far
abbrev pub invariant-loop-block : goal.invariant-loop-block
invariant-loop-block l =
    EachSoFar block_of (All (IsMapPoint (map_of l.file) (function_of l.function))) l.function.blocks.items l.block-index
