-- The placement that a map of a graph is: registers and slots where it has columns and offsets, and each frame array
-- where the use of the frame has it.
use Rattle.std.specs.Prelude.{ℕ, ◌+◌, ◌*◌, List, [], length, map}
use Rattle.std.specs.List.{range_with_len}
use Rattle.ia32_insn.specs.declared.insn.Insn.{Insn}
use Rattle.flow_graph.specs.Graphs.{Flow}
use Rattle.puzzle_board.specs.Places.{PlaceMap}
use Rattle.allocator.specs.PointMaps.{array_below, slot_count}
use Rattle.ia32_rows.specs.Placements.{Placement}
use Rattle.ia32_placements.specs.Standings.{standing_after, standing_before}

-- how far below EBP element 0 of each frame array stands
abbrev pub arrays_in : Flow → PlaceMap → List ℕ
arrays_in flow places = map (array_below flow places) (range_with_len 0 (length flow.arrays))

-- the bytes of the frame above its arrays: the four words that it begins with, and the slots
abbrev pub above_arrays : PlaceMap → ℕ
above_arrays places = 16 + 4 * slot_count places

-- nothing moves between points
abbrev pub no_moves : ℕ → ℕ → List Insn
no_moves point next = []

-- Between two points stand these instructions. Of the frame only the arrays are made 0 where the function begins.
abbrev pub placement_in : Flow → PlaceMap → (ℕ → ℕ → List Insn) → Placement
placement_in flow places between =
    record {
      frame = places.frame;
      zeroed = above_arrays places;
      arrays = arrays_in flow places;
      before = standing_before places;
      after = standing_after places;
      between = between;
    }
