-- What the graph of lines asks of them.
use Rattle.std.specs.Prelude.{ℕ, ◌<◌, false, List, ◌++◌, length}
use Rattle.std.specs.List.{AllByRecursion}
use Rattle.pcc_base.specs.declared.run.Width.{Width}
use Rattle.flow_graph.specs.Graphs.{Flow, FitsOp, IsDistinct, IsEnded, with_op}
use Rattle.lower_lines.specs.Following.{Closes}
use Rattle.lower_lines.specs.Lines.{Line, Start, Emit, ops_in, starts_in}

-- The lines start each of so many blocks once at most, and end each before they start the next.
pub record AreClosed (blocks : ℕ) (lines : List Line) : Type 0 where
  pub once : IsDistinct (starts_in lines)
  pub inside : AllByRecursion (λ block. block < blocks) (starts_in lines)
  pub closed : Closes false lines false

-- each op fits a graph
abbrev pub AllFit : Flow → List Line → Type 0
AllFit flow lines = AllByRecursion (FitsOp flow) (ops_in lines)

-- a line can be put behind others, of which these are the graph and the block that was started last
abbrev pub CanFollow : Flow → ℕ → Line → Type 0
CanFollow flow last (Start block) = Unit {0}
CanFollow flow last (Emit op) = (last < length flow.blocks) × (IsEnded flow last → ⊥) × FitsOp flow op

-- the graph behind a line, and the block that was started last
abbrev pub graph_behind : Flow → ℕ → Line → Flow
graph_behind flow last (Start block) = flow
graph_behind flow last (Emit op) = with_op flow last op

abbrev pub last_behind : ℕ → Line → ℕ
last_behind last (Start block) = block
last_behind last (Emit op) = last

-- more variables, arrays and blocks
abbrev pub and_widths : Flow → List Width → Flow
and_widths flow widths = record {
  widths = flow.widths ++ widths;
  arrays = flow.arrays;
  blocks = flow.blocks;
  ops = flow.ops;
}

abbrev pub and_arrays : Flow → List (ℕ × ℕ) → Flow
and_arrays flow arrays = record {
  widths = flow.widths;
  arrays = flow.arrays ++ arrays;
  blocks = flow.blocks;
  ops = flow.ops;
}
