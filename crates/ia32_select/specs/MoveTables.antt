-- Instructions between points, as a table: for each point two points that may follow it, each with the instructions on
-- the way there.
use Rattle.std.specs.Prelude.{◌≡◌, ◌≤◌, ◌⊎◌, ◌==◌, ℕ, Bool, false, List, [], length, Option, Some, None, slice_get}
use Rattle.std.specs.Prelude.{slice_range, if◌then◌else◌}
use Rattle.ia32_insn.specs.declared.insn.Insn.{Insn}
use Rattle.flow_graph.specs.Graphs.{Flow}
use Rattle.flow_graph.specs.Liveness.{IsSuccessor}
use Rattle.puzzle_board.specs.Places.{PlaceMap}
use Rattle.ia32_select.specs.declared.stretch.Stretch.{Stretch}
use Rattle.ia32_select.specs.EdgeMoves.{AreBetween}

-- the point that follows, if one does, and the instructions on the way
abbrev pub Way : Type 0
Way = Option ℕ × List Insn

abbrev pub Ways : Type 0
Ways = Way × Way

-- that is the point
abbrev pub is_to : Option ℕ → ℕ → Bool
is_to None next = false
is_to (Some point) next = point == next

-- the instructions of the first way that leads to the point
abbrev pub on_way : Option Ways → ℕ → List Insn
on_way None next = []
on_way (Some ways) next =
    if is_to ways.0.0 next then ways.0.1 else (if is_to ways.1.0 next then ways.1.1 else [])

-- the instructions between two points
abbrev pub between_in : List Ways → ℕ → ℕ → List Insn
between_in table point next = on_way (slice_get table point) next

-- ---- as the code holds it

-- the way that a stretch of all instructions is
abbrev pub way_in : List Insn → Stretch → Way
way_in insns stretch = (stretch.to, slice_range insns stretch.start stretch.end)

abbrev pub ways_in : List Insn → Stretch × Stretch → Ways
ways_in insns stretches = (way_in insns stretches.0, way_in insns stretches.1)

abbrev pub IsWithin : List Insn → Stretch → Type 0
IsWithin insns stretch = (stretch.start ≤ stretch.end) × (stretch.end ≤ length insns)

abbrev pub AreWithin : List Insn → Stretch × Stretch → Type 0
AreWithin insns stretches = IsWithin insns stretches.0 × IsWithin insns stretches.1

-- ---- of a graph over a map

-- from the point to each one that follows it the table has the instructions that move variables
abbrev pub IsDone : Flow → PlaceMap → List Ways → ℕ → Type 0
IsDone flow places table point =
    (next : ℕ) → IsSuccessor flow point next → AreBetween flow places point next (between_in table point next)

-- So it has from the points that pass a test, and from those from which it had before.
pub record Fills (flow : Flow) (places : PlaceMap) (P : ℕ → Type 0) (old new : List Ways) : Type 0 where
  pub points : length new ≡ length old
  pub done : (point : ℕ) → P point ⊎ IsDone flow places old point → IsDone flow places new point
