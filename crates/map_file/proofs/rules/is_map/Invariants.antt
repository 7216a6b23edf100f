use Rattle.map_text.specs.Rules.{IsMapFunction}
use Rattle.map_file.specs.Views.{function_of, map_of}
use Rattle.map_file.proofs.Deciding.{EachSoFar}
use Rattle.map_file.proofs.rules.is_map.Given as goal

-- the map may have each function so far
abbrev pub invariant-loop-function : goal.invariant-loop-function
invariant-loop-function l =
    EachSoFar function_of (IsMapFunction (map_of l.file)) l.file.functions.items l.function-index
