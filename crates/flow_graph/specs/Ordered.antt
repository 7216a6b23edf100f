-- How a graph keeps the order of its points: on index lists, a list for each block and a node for each point.
use Rattle.std.specs.Prelude.{ℕ, ◌≡◌, List, length}
use Rattle.pcc_base.specs.declared.run.Width.{Width}
use Rattle.index_lists.specs.Lists.{Lists}
use Rattle.flow_graph.specs.declared.op.Op.{Op}
use Rattle.flow_graph.specs.Graphs.{Flow, IsFlow}

-- the graph whose blocks are these lists of points
abbrev pub ordered : List Width → List (ℕ × ℕ) → Lists → List Op → Flow
ordered widths arrays order ops = record { widths = widths; arrays = arrays; blocks = order.lists; ops = ops }

-- what every graph keeps, with a node for each point that was made
abbrev pub IsOrdered : Flow → ℕ → Type 0
IsOrdered flow nodes = (homes : List ℕ) × IsFlow flow homes × (nodes ≡ length flow.ops)
