-- What a contract sees of the elementary form of a graph.
use Rattle.std.specs.Prelude.{ℕ, ◌≡◌, ◌<◌, List, length, Option, Some, None, slice_get, slice_index_or}
use Rattle.flow_graph.specs.declared.op.Op.{Op}
use Rattle.flow_graph.specs.Graphs.{Flow, IsPlaced}
use Rattle.flow_graph.specs.Liveness.{FixedDies}
use Rattle.flow_graph.specs.Lives.{AreLive, Lives}
use Rattle.flow_liveness.specs.Names.{joined, place_in}

-- the graph and its live sets: the names are made of these
pub record Form : Type 0 where
  pub graph : Flow
  pub lives : Lives

-- the dividend of each division and the count of each shift are not live after their op, and no other operand of it
abbrev pub FixedOperandsDie : Flow → Type 0
FixedOperandsDie flow =
    (point : ℕ) (op : Op) → IsPlaced flow point → slice_get flow.ops point ≡ Some op → FixedDies flow point op

-- how many points the blocks have
abbrev pub placed_count : Flow → ℕ
placed_count flow = length (joined flow.blocks)

-- what every form keeps: its live sets are those of the graph's paths, fixed operands die, and the blocks have fewer
-- than 2^31 points
pub record IsForm (form : Form) : Type 0 where
  pub live : AreLive form.graph form.lives
  pub dies : FixedOperandsDie form.graph
  pub few : placed_count form.graph < 0x80000000

-- for each point its place among these points; one that isn't there has none
abbrev pub ArePlaces : List ℕ → List (Option ℕ) → Type 0
ArePlaces points places = (point : ℕ) → slice_index_or places point None ≡ place_in point points
